-- How the contract of `scan` follows: the anchors lead from one to the next term's start, and each uncovered one is
-- fetched.
use Rattle.std.proofs.Common.{arith, refl, ◌∙◌, sym, ap, not, ◌<◌, subst}
use Rattle.simplex_view_maps.specs.ByTerm.{has_covering}
use Rattle.std.proofs.lemmas.Bool.Decides.{nat_tests}
use Rattle.simplex_types.specs.Terms.{next_term_start}
use Rattle.simplex_resolver.specs.Facts.{end_of_scan}
use Rattle.simplex_resolver.proofs.Terms.{terms}
use Rattle.simplex_resolver.proofs.Anchors.{turn, end_of_scan-next}
use Rattle.simplex_resolver.proofs.resolver.scan.scan.Goals as goal

pub loop-term_length-smaller : goal.loop-term_length-smaller
loop-term_length-smaller c =
    let own = (terms c.args.term_length c.requires.long).le-last c.loop-term_length.anchor
    c.loop-term_length.invariant.low in
    let more : c.loop-term_length.anchor < c.args.current = let is = c.lt.ensures in
    let holds = c.loop-term_length-test.true in grind (arith, nat_tests, is, holds) in
    omega (arith, own, more, c.next_term_start-next.ensures)

pub loop-term_length-preserved : goal.loop-term_length-preserved
loop-term_length-preserved c =
    let low = c.loop-term_length.invariant.low in
    let anchor = c.loop-term_length.anchor in
    let own = (terms c.args.term_length c.requires.long).le-last anchor low in
    let more : anchor < c.args.current = let is = c.lt.ensures in let holds = c.loop-term_length-test.true in
    grind (arith, nat_tests, is, holds) in
    let long = subst (λ t. 0 < t) (sym c.requires.same_terms) c.requires.long in
    let to = c.next_term_start-next.ensures ∙ ap (λ t. next_term_start t anchor) (sym c.requires.same_terms) in
    let before = c.loop-term_length.effects.items in
    record {
      low = omega (arith, own, c.next_term_start-next.ensures);
      end = ap (λ n. end_of_scan c.args.term_length n c.args.current) c.next_term_start-next.ensures
          ∙ end_of_scan-next c.args.term_length anchor c.args.current c.requires.long low more
          ∙ c.loop-term_length.invariant.end;
      fetched =
          let m = c.args.nullifications.now in
          turn (not (has_covering m anchor)) c.args.cause anchor _ c.args.current m before _ _ long low more to refl
          c.in_ok-fetch_anchor.ensures c.loop-term_length.invariant.fetched;
    }
