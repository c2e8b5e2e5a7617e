-- `simplex_engine_view` answers at null, and else lends what lies at the pointer for the call of `pass_view`, and has
-- it back.
use Rattle.ffi_exports.proofs.Steps.{◌≡◌, ℕ, [], ◌∷◌, ◌++◌, refl, w64, MutBor, proved, full_share, id⊢, Lft, ftrue, flft, flent, fsep, named, vptr, fact, tables, ‵, raw, ◌⊛◌, some, later, prop, at_ret, ◌$◌, ◌∵◌, !, qed, done, move, keep, drop, use1, use3, split, join, fsplit, fjoin, fpack, pick, await, regoal, suffices, group, lft_new, lft_end, enter, of_opd, addr, stop, no_more, and_then, first, blocks, exec, returns, alloc_all, pass_all, free_all, look_at, get, through, sets, sets_last, lands_as, env, u64, yes, Is, shows, lends_ref, ref_back, Body, mem, uint_Makes, uint_vals, uint_Tells, Ptr, RawPtr, block_ptr, lies_at, rawptr_vals, rawptr_Tells, MutRef, mut_vals, plain, nothing, owned, heard, peeks, calls_at, lasts, Lasts, on_entry, triple_of, framed, Stays, walk_of, stay_dropped, Goes-dropped, ends_at, rewrite, inl, inr, lit<, fpick, bin, lit, skips, branches, returns_within, null_ptr, Testable, tests_null, null_or_not}
use prog.Wp.{WpFn}
use Rattle.ffi_exports.specs.contracts.engines.simplex_engine_view as f
use Rattle.ffi_exports.proofs.engines.simplex_engine_view.Statement.{statement}
use Rattle.ffi_exports.proofs.engines.simplex_engine_view.Code as code
use Rattle.ffi_exports.specs.contracts.engines.pass_view as g
use Rattle.ffi_exports.proofs.engines.pass_view.Met.{met}
use Rattle.ffi_member.specs.contracts.null_handle.view as n
use Rattle.ffi_member.proofs.null_handle.view.Met.{met as met_null}
use Rattle.ffi_engine.specs.contracts.held.HeldEngine.{the_row as R}
use Rattle.ffi_engine.specs.declared.held.HeldEngine.{HeldEngine}
use Rattle.ffi_member.specs.contracts.view_types.FlatView.{the_row as A}
use Rattle.ffi_member.specs.declared.view_types.FlatView.{FlatView}
use Rattle.ffi_member.proofs.view_types.FlatView.TheLaws as answer
use Rattle.ffi_exports.specs.HandleContents.{fact_formula, engine_at}
use Rattle.ffi_exports.specs.HandleContents.{IsRead}
use Rattle.ffi_engine.specs.EngineViews.{ShowsView}

abbrev stayed : Stays f.ended.signature.params f.ended.kept
stayed = (stay_dropped _ yes, (stay_dropped _ yes, tt))

pub simplex_engine_view_spec : {M : Type 1} → statement M
simplex_engine_view_spec 𝓤 𝓛 𝓜 𝓡 wired =
    let c = f.clauses 𝓛 𝓜.mem 𝓡.returns in let W = walk_of 𝓛 f.ended stayed c in let 𝓣 = tables 𝓤 𝓛.H 𝓜 𝓡 𝓡.env in
    proved 𝓛 f.ended stayed c 𝓜 𝓡 (
      Goes-dropped 𝓛 0 (plain (λ _. RawPtr)) yes (λ κs x w. refl),
      (Goes-dropped 𝓛 0 (plain (λ _. u64)) yes (λ κs x w. refl), tt),
    )
    f.Key.name code.function (code.unfolded 𝓤 𝓛.H 𝓜 𝓡 wired)
    (λ κs. (rawptr_vals, (uint_vals w64, tt))) (λ κs. (rawptr_Tells, (uint_Tells w64, tt))) (λ κs qs bounds a held are.
    let number = a.1.0 in
    let y : Ptr
    → W.Ghost = λ p. ((κs, qs, bounds, (p, (number, tt)), (rawptr_vals p, (uint_vals w64 number, tt))), held) in
    elim (null_or_not a.0) [
      | inl e ↦
          qed 𝓛 (raw (on_entry 𝓛 f.signature κs qs a (y a.0).0.4) ∷ ‵ (engine_at a.0 held) ∷ []) ∵ drop ! $ drop ! $
          regoal ! (λ p. prop (WpFn 𝓤 𝓛.H 𝓣.C 𝓣.Λ code.function (rawptr_vals p ++ uint_vals w64 number) (W.post (y p))))
          e refl $
          enter ! _ _ _ _ _ $ alloc_all !
          (λ l. pass_all ! refl ((tt, record { fits = lit< tt }), ((tt, record { fits = are.1.0.1 }), tt)) $
          sets ! (of_opd ! (get ! refl)) refl (tt, record { fits = lit< tt }) $
          sets ! (bin ! (get ! refl) (lit ! tt) (tests_null null_ptr (lit< tt))) refl (tt, tt) $
          first ! $ branches ! (get ! refl) (λ t.
          let G = triple_of 𝓛 n.signature (n.spec 𝓛 𝓜.mem 𝓡.returns) in
          let z : G.Ghost = ((tt, tt, tt, tt, tt), tt) in
          nothing ! $ nothing ! $ join ! $ nothing ! $ move ! (1 ∷ 0 ∷ []) $ join ! $ use1 𝓛 (raw (G.pre z)) (id⊢ 𝓤 _) $
          calls_at ! (framed 𝓤 𝓛.H 𝓜 (tables 𝓤 𝓛.H 𝓜 𝓡 𝓡.env)) G
          (met_null 𝓤 𝓛 𝓜 𝓡 (code.calls-ffi_member::null_handle::view 𝓡.env wired)) z (no_more !) (λ v.
          use1 𝓛 (later (some (λ (u : FlatView). (‵ ftrue ⊛ ‵ (A.own_val u (v ∷ []))) ⊛
          some (λ (ws : Lasts n.ended z.0.0 z.0.3). ‵ (lasts n.ended z.0.0 z.0.3 ws) ⊛ raw (fact 𝓤 (u.status ≡ 15))))))
          (id⊢ 𝓤 _) $
          await ! tt $ pick ! (λ u. split ! $ split ! $ drop ! $
          peeks ! A (Is A) (shows 𝓛 A) u (v ∷ [])
          (λ is. lands_as ! refl refl ((answer.the_row_laws.lawful 𝓛).typed u (v ∷ []) is).0 $
          move ! (1 ∷ []) $ pick !
          (λ ws. split ! $ drop ! $ heard ! _ (λ added. nothing ! $ fpack ! (u.status ≡ 15) (λ _. ftrue) added $
          returns_within ! (W.post (y null_ptr)) refl (look_at ! 0 refl) $ free_all ! refl $ keep ! (1 ∷ 0 ∷ []) $
          suffices ! _ (ends_at 𝓛 f.ended stayed c (y null_ptr) v u (tt, (tt, tt)) (tt, (tt, tt))) $
          nothing ! $ nothing ! $ join ! $ nothing ! $ join ! $ nothing ! $ group ! 3 $ done !)))))) (λ t. absurd t))
      | inr (b, o, e) ↦
          qed 𝓛 (raw (on_entry 𝓛 f.signature κs qs a (y a.0).0.4) ∷ ‵ (engine_at a.0 held) ∷ []) ∵ drop ! $
          rewrite ! 0 (λ (p : Ptr). ‵ (engine_at p held)) e refl $ fsplit ! $ fpick ! (λ may. drop ! $
          regoal ! (λ p. prop (WpFn 𝓤 𝓛.H 𝓣.C 𝓣.Λ code.function (rawptr_vals p ++ uint_vals w64 number) (W.post (y p))))
          e refl $
          enter ! _ _ _ _ _ $ alloc_all ! (λ l. pass_all ! refl ((tt, tt), ((tt, record { fits = are.1.0.1 }), tt)) $
          sets ! (of_opd ! (get ! refl)) refl (tt, tt) $
          sets ! (bin ! (get ! refl) (lit ! tt) (tests_null (block_ptr b o) may)) refl (tt, tt) $
          first ! $ branches ! (get ! refl) (λ t. absurd t) (λ t. skips ! $
          exec ! 𝓣.C 𝓣.Λ (env code.Mir.locals l) code.Mir.t-4
          (at_ret (env code.Mir.locals l) (W.post (y (block_ptr b o)))) $
          -- [the counter; the locals]
          first ! $ blocks ! $
          sets ! (of_opd ! (get ! refl)) refl (tt, tt) $ sets ! (of_opd ! (get ! refl)) refl (tt, tt) $
          sets_last ! (addr ! (through ! refl (stop !))) refl (tt, tt) $
          exec ! 𝓣.C 𝓣.Λ (env code.Mir.locals l) code.Mir.t-5
          (at_ret (env code.Mir.locals l) (W.post (y (block_ptr b o)))) $
          sets ! (of_opd ! (get ! refl)) refl (tt, tt) $
          sets ! (of_opd ! (get ! refl)) refl (tt, record { fits = are.1.0.1 }) $
          lft_new ! tt (λ α. let κ : Lft = α ∷ [] in move ! (1 ∷ []) $
          use1 𝓛 (later (some (λ (γ : ℕ). ‵ ((MutRef (named 0) κ R).own_val
          (record { ref_ptr = (b, o); ghost_name = γ; now = held }) (vptr b o ∷ []))
          ⊛ ‵ (flent κ (Body (mem R) b o γ)))))
          (lends_ref 𝓛 R (named 0) κ held b o) $ await ! tt $ pick ! (λ γ. split ! $
          -- [the loan; what the lender keeps; the token]
          let r : MutBor HeldEngine = record { ref_ptr = (b, o); ghost_name = γ; now = held } in
          let G = triple_of 𝓛 g.signature (g.spec 𝓛 𝓜.mem 𝓡.returns) in
          let z : G.Ghost =
          (((κ, tt), (full_share, tt), tt, (r, (number, tt)), (mut_vals r, (uint_vals w64 number, tt))), tt) in
          nothing ! $ owned ! u64 (Is u64) (uint_Makes 𝓛 w64) number _ (refl, are.1.0.1) $ fjoin ! $ move ! (1 ∷ 0 ∷ [])
          $ fjoin ! $
          nothing ! $ move ! (3 ∷ 0 ∷ []) $ join ! $ join ! $ nothing ! $ move ! (1 ∷ 0 ∷ []) $ join ! $ use1 𝓛
          (raw (G.pre z)) (id⊢ 𝓤 _) $
          calls_at ! (framed 𝓤 𝓛.H 𝓜 (tables 𝓤 𝓛.H 𝓜 𝓡 𝓡.env)) G
          (met 𝓤 𝓛 𝓜 𝓡 (code.calls-ffi_exports::engines::pass_view 𝓡.env wired)) z
          (and_then ! (get ! refl) (and_then ! (get ! refl) (no_more !))) (λ v.
          use1 𝓛 (later (some (λ (u : FlatView). ((‵ (flft κ full_share) ⊛ ‵ ftrue) ⊛ ‵ (A.own_val u (v ∷ []))) ⊛
          some (λ (ws : Lasts g.ended z.0.0 z.0.3). ‵ (lasts g.ended z.0.0 z.0.3 ws)
          ⊛ raw (fact 𝓤 (IsRead held ws.0 (ShowsView held number u))))))) (id⊢ 𝓤 _) $
          await ! tt $ pick ! (λ u. split ! $ split ! $ split ! $ lft_end ! tt $
          -- [α is over; nothing; the answer; the rest; what the lender keeps]
          move ! (2 ∷ []) $ peeks ! A (Is A) (shows 𝓛 A) u (v ∷ [])
          (λ is. lands_as ! refl refl ((answer.the_row_laws.lawful 𝓛).typed u (v ∷ []) is).0 $
          move ! (3 ∷ []) $ pick ! (λ ws. split ! $ move ! (1 ∷ []) $ heard ! _ (λ added. fsplit ! $ fsplit ! $
          -- [the loan's last value; its borrow; nothing; the answer; α is over; nothing; what the lender keeps]
          move ! (4 ∷ 6 ∷ 0 ∷ []) $ use3 𝓛 (later (‵ (lies_at R full_share (block_ptr b o) ws.0)))
          (ref_back 𝓛 R κ γ ws.0 b o) $ await ! tt $
          nothing ! $ fpack ! (Testable (block_ptr b o)) (λ _. ftrue) may $ fjoin ! $
          nothing ! $ fpack ! (IsRead held ws.0 (ShowsView held number u)) (λ _. ftrue) added $ fjoin ! $
          fpack ! HeldEngine (λ now. fsep (fact_formula (IsRead held now (ShowsView held number u)))
          (engine_at (block_ptr b o) now)) ws.0 $
          returns ! (look_at ! 0 refl) $ free_all ! refl $ keep ! (3 ∷ 0 ∷ []) $
          suffices ! _ (ends_at 𝓛 f.ended stayed c (y (block_ptr b o)) v u (tt, (tt, tt)) (tt, (tt, tt))) $
          nothing ! $ nothing ! $ join ! $ nothing ! $ join ! $ nothing ! $ group ! 3 $ done !))))))))))
    ])
