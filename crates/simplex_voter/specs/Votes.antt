-- The results of the calls for a vote, and what they decide. Without a key the vote is decided and not returned.
use Rattle.std.specs.Prelude.{◌≡◌, ℕ, Bool, true, ◌&&◌, Option, Some, None, is_some, if◌then◌else◌}
use Rattle.std.specs.Ordering.{nat_cmp}
use Rattle.std.specs.BTreeSet.{insert_key}
use Rattle.simplex_types.specs.declared.types.messages.Proposal.{Proposal}
use Rattle.simplex_round.specs.declared.round.Decision.TheVariants.{Finalize}
use Rattle.simplex_round.specs.Round.{after_nullify, is_nullify}
use Rattle.simplex_types.specs.declared.types.messages.Nullify.{Nullify}
use Rattle.simplex_types.specs.declared.types.messages.Finalize as message
use Rattle.simplex_types.specs.declared.types.messages.Notarize.{Notarize}
use Rattle.simplex_types.specs.declared.types.messages.Subject.{Subject}
use Rattle.simplex_types.specs.declared.types.messages.Subject.TheVariants as subject
use Rattle.simplex_types.specs.Signatures.{IsSignedAs}
use Rattle.simplex_voter.specs.Facts.{StateFacts, Elect, round_number, round_of, with_round}
use Rattle.simplex_voter.specs.Leaders.{with_next_view_ready}
use Rattle.simplex_voter.specs.Rules.{may_notarize, may_nullify, may_finalize}

-- the vote is this member's, for this view of its epoch, with its signature on exactly that
pub record IsSignedNullify {S L D K G C : Type 0} (is_signature : K → Subject D → G → Type 0)
    (x : StateFacts K L D) (v : ℕ)
    (vote : Nullify S K G C) : Type 0 where
  pub round : vote.round ≡ round_number x v
  pub signer : x.me ≡ Some vote.signer
  pub signed : IsSignedAs is_signature x.me x.members (subject.Nullify vote.round) vote.signature

-- the vote is this member's, with its signature on exactly its proposal
pub record IsSignedNotarize {S L D K G C : Type 0} (is_signature : K → Subject D → G → Type 0) (x : StateFacts K L D)
    (vote : Notarize S D K G C) : Type 0 where
  pub signer : x.me ≡ Some vote.signer
  pub signed : IsSignedAs is_signature x.me x.members (subject.Notarize vote.proposal) vote.signature

-- the vote is this member's, with its signature on exactly its proposal
pub record IsSignedFinalize {S L D K G C : Type 0} (is_signature : K → Subject D → G → Type 0) (x : StateFacts K L D)
    (vote : message.Finalize S D K G C) : Type 0 where
  pub signer : x.me ≡ Some vote.signer
  pub signed : IsSignedAs is_signature x.me x.members (subject.Finalize vote.proposal) vote.signature

module _ {K L D : Type 0} where
  -- this member's nullify vote for the view is cast, if it has a key
  abbrev pub nullify_cast : StateFacts K L D → ℕ → StateFacts K L D
  nullify_cast x v = if is_some x.me then record x { nullify_votes = insert_key nat_cmp x.nullify_votes v } else x

  -- `construct_nullify`: the vote is returned with whether it is a repeat
  abbrev pub nullify_answer : StateFacts K L D → ℕ → Option Bool
  nullify_answer x v = if is_some x.me && may_nullify x v then Some (is_nullify (round_of x v).decision) else None

  -- the vote is decided and cast if its rule allows it, else nothing changes
  abbrev pub after_construct_nullify : StateFacts K L D → ℕ → StateFacts K L D
  after_construct_nullify x v =
      if may_nullify x v then nullify_cast (with_round x v (after_nullify (round_of x v))) v else x

module _ {K L D : Type 0} where
  -- the vote to notarize the view is decided
  abbrev pub notarize_cast : StateFacts K L D → ℕ → StateFacts K L D
  notarize_cast x v = with_round x v (record (round_of x v) { notarize_decided = true })

  -- the vote to finalize the view is decided
  abbrev pub finalize_cast : StateFacts K L D → ℕ → StateFacts K L D
  finalize_cast x v = with_round x v (record (round_of x v) { decision = Finalize })

  -- the proposal that is held, if there is a key
  abbrev pub signed_proposal : StateFacts K L D → ℕ → Option (Proposal D)
  signed_proposal x v = if is_some x.me then (round_of x v).slot.held else None

module _ {K L D : Type 0} (elect : Elect L) where
  -- `construct_finalize`: what is signed
  abbrev pub finalize_answer : StateFacts K L D → ℕ → Option (Proposal D)
  finalize_answer x v = if is_some x.me && may_finalize elect x v then (round_of x v).slot.held else None

  -- the same, of a vote to finalize
  abbrev pub after_construct_finalize : StateFacts K L D → ℕ → StateFacts K L D
  after_construct_finalize x v = if may_finalize elect x v then finalize_cast x v else x

module _ {K L D : Type 0} (same : D → D → Bool) (elect : Elect L) where
  -- `construct_notarize`: what is signed
  abbrev pub notarize_answer : StateFacts K L D → ℕ → Option (Proposal D)
  notarize_answer x v = if is_some x.me && may_notarize same elect x v then (round_of x v).slot.held else None

  -- the same, of a vote to notarize, which prepares the next view
  abbrev pub after_construct_notarize : StateFacts K L D → ℕ → StateFacts K L D
  after_construct_notarize x v =
      if may_notarize same elect x v then with_next_view_ready elect (notarize_cast x v) v else x
