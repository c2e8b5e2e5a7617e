-- `simplex_resolver_told` returns at null, and otherwise lends the value at the pointer for the call of `tell`, and has
-- it back.
use Rattle.ffi_exports.proofs.Steps.{◌≡◌, ℕ, ◌^◌, ◌<◌, length, [], ◌∷◌, ◌++◌, refl, MutBor, proved, full_share, id⊢, Lft, ftrue, flft, flent, fex, fsep, named, vptr, fact, tables, ‵, raw, ◌⊛◌, some, later, prop, at_ret, ◌$◌, ◌∵◌, !, qed, done, move, keep, drop, use1, use3, split, join, fsplit, fjoin, fpack, pick, await, regoal, suffices, group, lft_new, lft_end, enter, of_opd, addr, stop, no_more, and_then, first, blocks, exec, returns, alloc_all, pass_all, free_all, look_at, get, through, sets, sets_last, lands_as, env, u8, RefOf, SliceRefOf, yes, Is, shows, lends_ref, ref_back, Body, mem, Ptr, RawPtr, block_ptr, lies_at, rawptr_vals, rawptr_Tells, MutRef, mut_vals, shr_vals, shr_Tells, shr_slice_vals, shr_slice_Tells, owns, plain, types_at, nothing, heard, peeks, calls_at, lasts, Lasts, triple_of, framed, Stays, walk_of, stay_dropped, Goes-dropped, ends_at, rewrite, inl, inr, lit<, fpick, bin, lit, skips, branches, returns_within, null_ptr, Testable, tests_null, null_or_not}
use prog.Wp.{WpFn}
use Rattle.ffi_exports.specs.contracts.resolvers.simplex_resolver_told as f
use Rattle.ffi_exports.proofs.resolvers.simplex_resolver_told.Statement.{statement}
use Rattle.ffi_exports.proofs.resolvers.simplex_resolver_told.Code as code
use Rattle.ffi_exports.specs.contracts.resolvers.tell as g
use Rattle.ffi_exports.proofs.resolvers.tell.Met.{met}
use Rattle.ffi_member.specs.contracts.null_handle.effects as n
use Rattle.ffi_member.proofs.null_handle.effects.Met.{met as met_null}
use Rattle.ffi_member.specs.contracts.resolver_calls.HeldResolver.{the_row as R}
use Rattle.ffi_member.specs.declared.resolver_calls.HeldResolver.{HeldResolver}
use Rattle.ffi_member.specs.contracts.resolver_types.FlatResolverReply.{the_row as P}
use Rattle.ffi_member.specs.contracts.resolver_types.FlatEffects.{the_row as A}
use Rattle.ffi_member.specs.declared.resolver_types.FlatEffects.{FlatEffects}
use Rattle.ffi_member.proofs.resolver_types.FlatEffects.TheLaws as answer
use Rattle.ffi_exports.specs.HandleContents.{fact_formula, resolver_at}
use Rattle.ffi_member.specs.ResolverHandles.{IsReceived}

abbrev stayed : Stays f.ended.signature.params f.ended.kept
stayed = (stay_dropped _ yes, (stay_dropped _ yes, (stay_dropped _ yes, tt)))

pub simplex_resolver_told_spec : {M : Type 1} → statement M
simplex_resolver_told_spec 𝓤 𝓛 𝓜 𝓡 wired =
    let c = f.clauses 𝓛 𝓜.mem 𝓡.returns in let W = walk_of 𝓛 f.ended stayed c in let 𝓣 = tables 𝓤 𝓛.H 𝓜 𝓡 𝓡.env in
    proved 𝓛 f.ended stayed c 𝓜 𝓡 (
      Goes-dropped 𝓛 2 (plain (λ _. RawPtr)) yes (λ κs x w. refl),
      (
        Goes-dropped 𝓛 2 (RefOf (0 ∷ []) tt (plain (λ _. P)) (λ _. tt)) yes (λ κs x w. refl),
        (Goes-dropped 𝓛 2 (SliceRefOf (1 ∷ []) tt (plain (λ _. u8)) (λ _. tt)) yes (λ κs x w. refl), tt),
      ),
    )
    f.Key.name code.function (code.unfolded 𝓤 𝓛.H 𝓜 𝓡 wired)
    (λ κs. (rawptr_vals, (shr_vals, (shr_slice_vals, tt))))
    (λ κs. (rawptr_Tells, (shr_Tells (named 0) κs.0 P, (shr_slice_Tells (named 1) κs.1.0 u8, tt))))
    (λ κs qs bounds a held are.
    let asked = a.1.0 in let bytes = a.1.1.0 in
    let count : length bytes.now < 2 ^ 64 = are.1.1.0.0.1.0 in
    let y : Ptr → W.Ghost = λ p. (
      (
        κs,
        qs,
        bounds,
        (p, (asked, (bytes, tt))),
        (rawptr_vals p, (shr_vals asked, (shr_slice_vals bytes, tt))),
      ),
      held,
    ) in
    elim (null_or_not a.0) [
      | inl e ↦
          qed 𝓛 (((‵ (flft κs.0 qs.0) ⊛ ‵ (flft κs.1.0 qs.1.0) ⊛ ‵ ftrue)
          ⊛ ‵ (owns (types_at f.signature.params κs) a (y a.0).0.4)) ∷ ‵ (resolver_at a.0 held) ∷ [])
          ∵ split ! $ keep ! (0 ∷ []) $
          regoal ! (λ p. prop (WpFn 𝓤 𝓛.H 𝓣.C 𝓣.Λ code.function
          (rawptr_vals p ++ (shr_vals asked ++ shr_slice_vals bytes)) (W.post (y p)))) e refl $
          enter ! _ _ _ _ _ $ alloc_all ! (λ l. pass_all ! refl
          ((tt, record { fits = lit< tt }), ((tt, tt), ((tt, (tt, (record { fits = count }, tt))), tt))) $
          sets ! (of_opd ! (get ! refl)) refl (tt, record { fits = lit< tt }) $
          sets ! (bin ! (get ! refl) (lit ! tt) (tests_null null_ptr (lit< tt))) refl (tt, tt) $
          first ! $ branches ! (get ! refl) (λ t.
          let G = triple_of 𝓛 n.signature (n.spec 𝓛 𝓜.mem 𝓡.returns) in
          let z : G.Ghost = ((tt, tt, tt, tt, tt), tt) in
          nothing ! $ nothing ! $ join ! $ nothing ! $ move ! (1 ∷ 0 ∷ []) $ join ! $ use1 𝓛 (raw (G.pre z)) (id⊢ 𝓤 _) $
          calls_at ! (framed 𝓤 𝓛.H 𝓜 (tables 𝓤 𝓛.H 𝓜 𝓡 𝓡.env)) G
          (met_null 𝓤 𝓛 𝓜 𝓡 (code.calls-ffi_member::null_handle::effects 𝓡.env wired)) z (no_more !) (λ v.
          use1 𝓛 (later (some (λ (u : FlatEffects). (‵ ftrue ⊛ ‵ (A.own_val u (v ∷ []))) ⊛
          some (λ (ws : Lasts n.ended z.0.0 z.0.3). ‵ (lasts n.ended z.0.0 z.0.3 ws) ⊛ raw (fact 𝓤 (u.status ≡ 15))))))
          (id⊢ 𝓤 _) $
          await ! tt $ pick ! (λ u. split ! $ split ! $ drop ! $
          peeks ! A (Is A) (shows 𝓛 A) u (v ∷ [])
          (λ is. lands_as ! refl refl ((answer.the_row_laws.lawful 𝓛).typed u (v ∷ []) is).0 $
          move ! (1 ∷ []) $ pick !
          (λ ws. split ! $ drop ! $ heard ! _ (λ added. nothing ! $ fpack ! (u.status ≡ 15) (λ _. ftrue) added $
          returns_within ! (W.post (y null_ptr)) refl (look_at ! 0 refl) $ free_all ! refl $ keep ! (1 ∷ 0 ∷ 2 ∷ []) $
          suffices ! _ (ends_at 𝓛 f.ended stayed c (y null_ptr) v u (tt, (tt, (tt, tt))) (tt, (tt, (tt, tt)))) $
          nothing ! $ nothing ! $ join ! $ nothing ! $ join ! $ nothing ! $ join ! $ move ! (3 ∷ []) $ group ! 3 $ done
          !)))))) (λ t. absurd t))
      | inr (b, o, e) ↦
          qed 𝓛 (((‵ (flft κs.0 qs.0) ⊛ ‵ (flft κs.1.0 qs.1.0) ⊛ ‵ ftrue)
          ⊛ ‵ (owns (types_at f.signature.params κs) a (y a.0).0.4)) ∷ ‵ (resolver_at a.0 held) ∷ []) ∵
          split ! $ move ! (1 ∷ []) $ fsplit ! $ drop ! $ move ! (2 ∷ []) $
          -- [the handle; what the other parameters own; the tokens]
          rewrite ! 0 (λ (p : Ptr). ‵ (resolver_at p held)) e refl $ fsplit ! $ fpick ! (λ may. drop ! $
          regoal ! (λ p. prop (WpFn 𝓤 𝓛.H 𝓣.C 𝓣.Λ code.function
          (rawptr_vals p ++ (shr_vals asked ++ shr_slice_vals bytes)) (W.post (y p)))) e refl $
          enter ! _ _ _ _ _ $ alloc_all !
          (λ l. pass_all ! refl ((tt, tt), ((tt, tt), ((tt, (tt, (record { fits = count }, tt))), tt))) $
          sets ! (of_opd ! (get ! refl)) refl (tt, tt) $
          sets ! (bin ! (get ! refl) (lit ! tt) (tests_null (block_ptr b o) may)) refl (tt, tt) $
          first ! $ branches ! (get ! refl) (λ t. absurd t) (λ t. skips ! $
          exec ! 𝓣.C 𝓣.Λ (env code.Mir.locals l) code.Mir.t-4
          (at_ret (env code.Mir.locals l) (W.post (y (block_ptr b o)))) $
          first ! $ blocks ! $
          sets ! (of_opd ! (get ! refl)) refl (tt, tt) $ sets ! (of_opd ! (get ! refl)) refl (tt, tt) $
          sets_last ! (addr ! (through ! refl (stop !))) refl (tt, tt) $
          exec ! 𝓣.C 𝓣.Λ (env code.Mir.locals l) code.Mir.t-5
          (at_ret (env code.Mir.locals l) (W.post (y (block_ptr b o)))) $
          sets ! (of_opd ! (get ! refl)) refl (tt, tt) $ sets ! (of_opd ! (get ! refl)) refl (tt, tt) $ sets !
          (of_opd ! (get ! refl)) refl (tt, (tt, (record { fits = count }, tt))) $
          lft_new ! tt (λ α. let κ : Lft = α ∷ [] in move ! (1 ∷ []) $
          use1 𝓛 (later (some (λ (γ : ℕ). ‵ ((MutRef (named 0) κ R).own_val
          (record { ref_ptr = (b, o); ghost_name = γ; now = held }) (vptr b o ∷ []))
          ⊛ ‵ (flent κ (Body (mem R) b o γ)))))
          (lends_ref 𝓛 R (named 0) κ held b o) $ await ! tt $ pick ! (λ γ. split ! $
          -- [the loan; what the lender keeps; the token; the other parameters; their tokens]
          let r : MutBor HeldResolver = record { ref_ptr = (b, o); ghost_name = γ; now = held } in
          let G = triple_of 𝓛 g.signature (g.spec 𝓛 𝓜.mem 𝓡.returns) in
          let z : G.Ghost = (
            (
              (κ, κs),
              (full_share, qs),
              tt,
              (r, (asked, (bytes, tt))),
              (mut_vals r, (shr_vals asked, (shr_slice_vals bytes, tt))),
            ),
            tt,
          ) in
          move ! (0 ∷ 3 ∷ []) $ fjoin ! $ move ! (2 ∷ 3 ∷ []) $ join ! $ join ! $ nothing ! $ move ! (1 ∷ 0 ∷ []) $ join
          ! $ use1 𝓛 (raw (G.pre z)) (id⊢ 𝓤 _) $
          calls_at ! (framed 𝓤 𝓛.H 𝓜 (tables 𝓤 𝓛.H 𝓜 𝓡 𝓡.env)) G
          (met 𝓤 𝓛 𝓜 𝓡 (code.calls-ffi_exports::resolvers::tell 𝓡.env wired)) z
          (and_then ! (get ! refl) (and_then ! (get ! refl) (and_then ! (get ! refl) (no_more !)))) (λ v.
          use1 𝓛 (later (some (λ (u : FlatEffects).
          ((‵ (flft κ full_share) ⊛ (‵ (flft κs.0 qs.0) ⊛ ‵ (flft κs.1.0 qs.1.0) ⊛ ‵ ftrue))
          ⊛ ‵ (A.own_val u (v ∷ []))) ⊛
          some (λ (ws : Lasts g.ended z.0.0 z.0.3). ‵ (lasts g.ended z.0.0 z.0.3 ws)
          ⊛ raw (fact 𝓤 (IsReceived held asked.now bytes.now u ws.0)))))) (id⊢ 𝓤 _) $
          await ! tt $ pick ! (λ u. split ! $ split ! $ split ! $ lft_end ! tt $
          -- [α is over; the tokens; the answer; the rest; what the lender keeps]
          move ! (2 ∷ []) $ peeks ! A (Is A) (shows 𝓛 A) u (v ∷ [])
          (λ is. lands_as ! refl refl ((answer.the_row_laws.lawful 𝓛).typed u (v ∷ []) is).0 $
          move ! (3 ∷ []) $ pick ! (λ ws. split ! $ move ! (1 ∷ []) $ heard ! _ (λ added. fsplit ! $ fsplit ! $
          -- [the loan's last value; its borrow; nothing; the answer; α is over; the tokens; what the lender keeps]
          move ! (4 ∷ 6 ∷ 0 ∷ []) $ use3 𝓛 (later (‵ (lies_at R full_share (block_ptr b o) ws.0)))
          (ref_back 𝓛 R κ γ ws.0 b o) $ await ! tt $
          nothing ! $ fpack ! (Testable (block_ptr b o)) (λ _. ftrue) may $ fjoin ! $
          nothing ! $ fpack ! (IsReceived held asked.now bytes.now u ws.0) (λ _. ftrue) added $ fjoin ! $
          fpack ! HeldResolver (λ now. fsep (fact_formula (IsReceived held asked.now bytes.now u now))
          (resolver_at (block_ptr b o) now)) ws.0 $
          returns ! (look_at ! 0 refl) $ free_all ! refl $ keep ! (3 ∷ 0 ∷ 4 ∷ []) $
          suffices ! _ (ends_at 𝓛 f.ended stayed c (y (block_ptr b o)) v u (tt, (tt, (tt, tt))) (tt, (tt, (tt, tt)))) $
          nothing ! $ nothing ! $ join ! $ nothing ! $ join ! $ nothing ! $ join ! $ move ! (3 ∷ []) $ group ! 3 $ done
          !))))))))))
    ])
