-- How the contract of `put_verdict` follows: after the round comes one byte, 1 for a true verdict.
use Rattle.std.proofs.Common.{◌≡◌, ℕ, if◌then◌else◌, Bool, true, false, refl, ap, ◌∙◌, ◌++◌, ◌∷◌, []}
use Rattle.simplex_types.specs.Encoding.{round_bytes}
use mir.Val.{bool_byte}
use Rattle.simplex_codec.proofs.Appended.{appended}
use Rattle.simplex_codec.proofs.fields.put_verdict.Goals as goal

abbrev byte : Bool → ℕ
byte b = if b then 1 else 0

same_byte : (b : Bool) → bool_byte b ≡ byte b
same_byte true = refl
same_byte false = refl

pub returns : goal.returns
returns c =
    let front = round_bytes c.args.round in
    let own = byte c.args.success ∷ [] in
    appended c.args.out.now.items c.put_u8.new.self.items c.put_u8-2.new.self.items (6 ∷ []) (front ++ own)
    c.in_ok-put_u8.ensures.ok
    (appended c.put_u8.new.self.items c.put_round.new.out.items c.put_u8-2.new.self.items front own
    c.in_ok-put_round.ensures.written
    (c.in_ok-put_u8-2.ensures.ok ∙ ap (λ n. c.put_round.new.out.items ++ (n ∷ []))
    (c.from.ensures ∙ same_byte c.args.success)))
