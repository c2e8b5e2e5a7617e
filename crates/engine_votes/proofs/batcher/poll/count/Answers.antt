-- How the contract of `count` follows: a first vote is taken, and a further one leaves a mark where a pair is returned.
use Rattle.std.proofs.Common.{ap, refl, sym, ◌∙◌, ◌≡◌, Some, true, false}
use Rattle.std.proofs.lemmas.Bool.{false≢true}
use Rattle.engine_votes.specs.VoteCounts.{is_pair, IsCountedIn, IsMarked}
use Rattle.engine_votes.specs.Polls.{ballot_of}
use Rattle.engine_votes.proofs.VoteCounts.{if_ok_on, counted_since, counted_again}
use Rattle.engine_votes.proofs.batcher.poll.count.Goals as goal
use Rattle.engine_votes.proofs.batcher.poll.count.Goals.{then-is_pair, else-is_pair}

pub returns-in_default-clause-counted : goal.returns-in_default-clause-counted
returns-in_default-clause-counted g c =
    if_ok_on c.take.result (λ r. counted_since g.D.PartialEq.eq (g.S.Assembly.IsMadeOf c.args.scheme.now) c.args.members
    c.args.slots.now.items c.make_room.new.slots.items c.in_ok-make_room.ensures.same c.args.vote
    c.take.new.slots.items r) c.take.ensures.counted

pub returns-clause-counted : goal.returns-clause-counted
returns-clause-counted g c =
    let same = g.D.PartialEq.eq in
    let made_of = g.S.Assembly.IsMadeOf c.args.scheme.now in
    let old = c.args.slots.now.items in
    let mid = c.make_room.new.slots.items in
    let held : ballot_of mid c.args.vote.signer ≡ Some c.in-Some.ballot.now =
    ap (ballot_of mid) (sym c.get-member.ensures)
    ∙ ap (λ slots. ballot_of slots c.get-member.result) (sym c.deref.ensures.value) ∙ sym c.in-Some.ensures in
    let count : (new : _) → (is_pair c.in_ok-counted.counted ≡ true → IsMarked mid c.args.vote.signer new)
    → (is_pair c.in_ok-counted.counted ≡ false → new ≡ mid)
    → IsCountedIn same made_of c.args.members old c.args.vote new c.in_ok-counted.counted =
    λ new marked left. counted_since same made_of c.args.members old mid c.in_ok-make_room.ensures.same c.args.vote new
    c.in_ok-counted.counted
    (counted_again same made_of c.args.members mid new c.in-Some.ballot.now c.args.vote c.in_ok-counted.counted held
    c.in_ok-counted.ensures marked left) in
    elim c.if-is_pair.branch [
      | then-is_pair w ↦ rw w.slots-is (count w.mark_contradicted.new.slots.items
          (λ _. rw c.get-member.ensures at w.mark_contradicted.ensures)
          (λ no. absurd (false≢true (sym no ∙ sym c.is_pair.ensures ∙ w.if-is_pair.true))))
      | else-is_pair w ↦ rw w.slots-is
          (count mid (λ is. absurd (false≢true (sym w.if-is_pair.false ∙ c.is_pair.ensures ∙ is))) (λ _. refl))
    ]
