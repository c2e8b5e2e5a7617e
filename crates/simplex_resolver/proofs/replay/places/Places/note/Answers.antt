-- How the contract of `note` follows: the entry's place is noted where it is a notarization, and no other entry changes
-- the places.
use Rattle.std.proofs.Common.{◌≡◌, ◌+◌, length, arith}
use Rattle.simplex_resolver.proofs.Noted.{not_noted, one_noted, ok_gives, err_gives}
use Rattle.simplex_resolver.proofs.replay.places.Places.note.Goals as goal

pub returns-then-self-place : goal.returns-then-self-place
returns-then-self-place g c = not_noted _ _ _ _ c.requires

pub returns-in_default : goal.returns-in_default
returns-in_default g c = not_noted _ _ _ _ c.requires

pub returns-then-is_ok : goal.returns-then-is_ok
returns-then-is_ok g c =
    let count = c.requires.count in
    let all : c.args.self.now.noted ≡ length c.args.before.now = omega (arith, count, c.if-self-place.false) in
    let next : c.in-Some.noted ≡ length c.args.before.now + 1 = omega (arith, c.in-Some.ensures) in
    one_noted _ _ _ _ _ c.requires all next (ok_gives _ c.if-is_ok.ensures.value c.store_position.ensures.kept)

pub returns-else-is_ok : goal.returns-else-is_ok
returns-else-is_ok g c = rw (err_gives _ c.if-is_ok.ensures.value c.store_position.ensures.refused)
    (not_noted _ _ _ _ c.requires)
