-- `simplex_member_free` does nothing at null, and else makes a `RawBox` of what lies at the pointer, and hands it to
-- `end`.
use Rattle.ffi_exports.proofs.Steps.{◌≡◌, [], ◌∷◌, refl, ap, proved, ftrue, Val, vptr, tables, ‵, raw, ◌⊛◌, some, later, prop, ◌$◌, ◌∵◌, !, qed, done, move, drop, use1, split, join, fjoin, pick, await, regoal, suffices, group, id⊢, enter, of_opd, no_more, and_then, returns, alloc_all, pass_all, free_all, look_at, get, sets, lands_as, yes, Is, Ptr, RawPtr, block_ptr, in_a_block, rawptr_vals, rawptr_Tells, plain, nothing, owned, calls_at, lasts, Lasts, on_entry, triple_of, framed, Stays, walk_of, stay_dropped, Goes-dropped, ends_at, rewrite, inl, inr, lit<, fpick, fsplit, bin, lit, skips, branches, returns_within, null_ptr, Testable, tests_null, null_or_not, exec, at_ret, env, first}
use base.Logic.{never, fst∗}
use denote.Builtin.{unit}
use denote.Memory.{lone}
use denote.RawPtr.{null_ptr}
use denote.Steps.{only}
use denote.Struct.Laws.{val, tells, makes}
use mir.Raw.{raw as bare}
use mir.Val.{vunit, vstruct, vcons, vnil}
use prog.Wp.{WpFn}
use types.Kit.{feq_i, feq_l}
use types.Logic.{sem}
use types.Part.{agg}
use types.Run.{unit_lit}
use Rattle.std_alloc.specs.Box.Ownership.{box_owns}
use Rattle.std_heap.specs.contracts.Global.{the_row as Z, the_type}
use Rattle.std_heap.specs.contracts.GlobalAllocator.TheImpl.{ghosts}
use Rattle.std_heap.proofs.Global.TheLaws as laws
use Rattle.ffi_exports.proofs.Values.{both, loose_good, loose_in}
use Rattle.ffi_exports.specs.contracts.exports.simplex_member_free as f
use Rattle.ffi_exports.proofs.exports.simplex_member_free.Statement.{statement}
use Rattle.ffi_exports.proofs.exports.simplex_member_free.Code as code
use Rattle.ffi_exports.specs.contracts.exports.end as g
use Rattle.ffi_exports.proofs.exports.end.Met.{met}
use Rattle.ffi_exports.specs.HandleContents.{owned_at}
use Rattle.ffi_member.specs.contracts.held.Held.{the_row as R}

abbrev stayed : Stays f.ended.signature.params f.ended.kept
stayed = (stay_dropped _ yes, (stay_dropped _ yes, tt))

-- the one machine value of the allocator
abbrev h : Val
h = vstruct (vcons (vstruct (vcons vunit vnil)) vnil)

pub simplex_member_free_spec : {M : Type 1} → statement M
simplex_member_free_spec 𝓤 𝓛 𝓜 𝓡 wired =
    let c = f.clauses 𝓛 𝓜.mem 𝓡.returns in let W = walk_of 𝓛 f.ended stayed c in let 𝓣 = tables 𝓤 𝓛.H 𝓜 𝓡 𝓡.env in
    proved 𝓛 f.ended stayed c 𝓜 𝓡 (
      Goes-dropped 𝓛 0 (plain (λ _. Z)) yes (λ κs x w. refl),
      (Goes-dropped 𝓛 0 (plain (λ _. RawPtr)) yes (λ κs x w. refl), tt),
    )
    f.Key.name code.function (code.unfolded 𝓤 𝓛.H 𝓜 𝓡 wired)
    (λ κs. ((λ x. val the_type laws.the_laws x ∷ []), (rawptr_vals, tt)))
    (λ κs. (tells the_type laws.the_laws, (rawptr_Tells, tt))) (λ κs qs bounds a held are.
    let alloc = a.0 in let at = a.1.0 in
    let y : Ptr → W.Ghost = λ p. ((κs, qs, bounds, (alloc, (p, tt)), (h ∷ [], (rawptr_vals p, tt))), held) in
    elim (null_or_not at) [
      | inl e ↦
          qed 𝓛 (raw (on_entry 𝓛 f.signature κs qs a (y at).0.4) ∷ ‵ (owned_at alloc at held) ∷ []) ∵ drop ! $
          rewrite ! 0 (λ (p : Ptr). ‵ (owned_at alloc p held)) e refl $
          regoal ! (λ p. prop (WpFn 𝓤 𝓛.H 𝓣.C 𝓣.Λ code.function (h ∷ rawptr_vals p) (W.post (y p)))) e refl $
          enter ! _ _ _ _ _ $ alloc_all !
          (λ l. pass_all ! refl ((tt, ((tt, tt), tt)), ((tt, record { fits = lit< tt }), tt)) $
          sets ! (bin ! (get ! refl) (lit ! tt) (tests_null null_ptr (lit< tt))) refl (tt, tt) $
          first ! $ branches ! (get ! refl) (λ t. sets ! (of_opd ! (unit_lit !)) refl (tt, tt) $
          returns_within ! (W.post (y null_ptr)) refl (look_at ! 0 refl) $ free_all ! refl $
          suffices ! _ (ends_at 𝓛 f.ended stayed c (y null_ptr) vunit tt (tt, (tt, tt)) (tt, (tt, tt))) $
          feq_i ! _ (vunit ∷ []) _ refl $ nothing ! $ nothing ! $ join ! $ nothing ! $ join ! $ nothing ! $ group ! 3 $
          done !) (λ t. absurd t))
      | inr (b, o, e) ↦
          qed 𝓛 (raw (on_entry 𝓛 f.signature κs qs a (y at).0.4) ∷ ‵ (owned_at alloc at held) ∷ []) ∵ drop ! $
          rewrite ! 0 (λ (p : Ptr). ‵ (owned_at alloc p held)) e refl $ fsplit ! $ fpick ! (λ may. drop ! $
          regoal ! (λ p. prop (WpFn 𝓤 𝓛.H 𝓣.C 𝓣.Λ code.function (h ∷ rawptr_vals p) (W.post (y p)))) e refl $
          let w : Val = both (vptr b o) h in
          enter ! _ _ _ _ _ $ alloc_all ! (λ l. pass_all ! refl ((tt, ((tt, tt), tt)), ((tt, tt), tt)) $
          sets ! (bin ! (get ! refl) (lit ! tt) (tests_null (block_ptr b o) may)) refl (tt, tt) $
          first ! $ branches ! (get ! refl) (λ t. absurd t) (λ t. skips ! $
          exec ! 𝓣.C 𝓣.Λ (env code.Mir.locals l) code.Mir.t-3
          (at_ret (env code.Mir.locals l) (W.post (y (block_ptr b o)))) $
          -- [what the box owns; the locals]
          sets ! (of_opd ! (get ! refl)) refl (tt, tt) $
          sets ! (agg ! (and_then ! (get ! refl) (and_then ! (get ! refl) (no_more !)))) refl
          (loose_good R Z laws.the_row_laws ghosts b o h (tt, ((tt, tt), tt))) $
          owned ! Z (Is Z) (makes the_type laws.the_plain 𝓛) alloc (h ∷ []) are.0 $ move ! (1 ∷ 0 ∷ []) $ loose_in R Z
          laws.the_row_laws ghosts ! b o h alloc held $
          -- [the loose member]
          let G = triple_of 𝓛 g.signature (g.spec 𝓛 𝓜.mem 𝓡.returns) in
          let z : G.Ghost =
          ((κs, qs, tt, (record { at = block_ptr b o; alloc = alloc; value = held }, tt), (w ∷ [], tt)), tt) in
          nothing ! $ move ! (1 ∷ 0 ∷ []) $ fjoin ! $ nothing ! $ join ! $ nothing ! $ move ! (1 ∷ 0 ∷ []) $ join ! $
          use1 𝓛 (raw (G.pre z)) (id⊢ 𝓤 _) $
          calls_at ! (framed 𝓤 𝓛.H 𝓜 (tables 𝓤 𝓛.H 𝓜 𝓡 𝓡.env)) G
          (met 𝓤 𝓛 𝓜 𝓡 (code.calls-ffi_exports::exports::end 𝓡.env wired)) z
          (and_then ! (get ! refl) (no_more !)) (λ v.
          use1 𝓛 (later (some (λ (r : Unit {0}). (‵ ftrue ⊛ ‵ (unit.own_val r (v ∷ []))) ⊛
          some (λ (ws : Lasts g.ended z.0.0 z.0.3). ‵ (lasts g.ended z.0.0 z.0.3 ws) ⊛ ‵ ftrue)))) (id⊢ 𝓤 _) $
          await ! tt $ pick ! (λ r. split ! $ split ! $ drop ! $ feq_l ! (λ is_unit. pick ! (λ ws. split ! $ drop ! $
          lands_as ! (ap only is_unit) refl (tt, tt) $ sets ! (of_opd ! (unit_lit !)) refl (tt, tt) $
          returns ! (look_at ! 0 refl) $ free_all ! refl $
          suffices ! _ (ends_at 𝓛 f.ended stayed c (y (block_ptr b o)) vunit tt (tt, (tt, tt)) (tt, (tt, tt))) $
          feq_i ! _ (vunit ∷ []) _ refl $ nothing ! $ nothing ! $ join ! $ nothing ! $ join ! $ nothing ! $ group ! 3 $
          done !)))))))
    ])
