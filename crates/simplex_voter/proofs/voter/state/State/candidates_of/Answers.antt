-- How the contract of `candidates_of` follows: each view adds its offer and its fetch to those so far.
use Rattle.simplex_voter.specs.Certification.{offered_of, fetched_of}
use Rattle.simplex_voter.proofs.Offers.{gathers_next}
use Rattle.simplex_voter.proofs.voter.state.State.candidates_of.Goals as goal

pub loop-entry-preserved : goal.loop-entry-preserved
loop-entry-preserved g c = record {
  offers = gathers_next (λ e. offered_of g.D.PartialEq.eq g.L.Elector.elect c.args.self.now e.0) c.args.views
      c.loop-entry.offers.items _ c.offer.result c.loop-entry.views _ _ c.loop-entry.invariant.offers c.in-Some.ensures
      c.offer.ensures c.in_ok-append.ensures.appended;
  fetches = gathers_next (λ e. fetched_of g.L.Elector.elect c.args.self.now e.0) c.args.views c.loop-entry.fetches.items
      _ c.fetch.result c.loop-entry.views _ _ c.loop-entry.invariant.fetches c.in-Some.ensures c.fetch.ensures
      c.in_ok-append-2.ensures.appended;
}
