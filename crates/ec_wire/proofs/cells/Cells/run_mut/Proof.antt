-- `run_mut` lends a run of the bytes, and the struct follows it.
use mathlib.Core.Path.{◌≡◌, refl, sym, ap, ◌∙◌}
use Prim.Native.Nat.{ℕ, ◌+◌, ◌-◌, ◌^◌, ◌<◌, ◌≤◌}
use native.Mathlib.Omega.{arith}
use mathlib.Core.List.{List, [], ◌∷◌, ◌++◌}
use lib.ListN.{length, take, drop as drop_list, length-append, length-drop}
use seplogic.Ra.Ura.{Ura}
use mir.Syntax.{Args, Fn, named, w64, a_number}
use mir.MapTy.{inst_fn}
use mir.Val.{Val, vptr, vint}
use base.Logic.{SProp, ent, sep, ex, emp, guard}
use base.Fml.{Fml, Lft, GName, Share, ftrue, flft}
use prog.Memory.{Memory, size}
use prog.Routine.{Routine}
use prog.Wp.{Calls, Loops, WpFn, Tables}
use types.Logic.{Logic, sem}
use types.Mut.{open_ref}
use types.SemTy.{cells}
use types.Part.{agg}
use types.Run.{stop, fld, addr, bin, and_then, no_more, returns, enter}
use types.ByLocal.{alloc_all, pass_all, free_all, look_at, get, through, sets}
use types.Kit.{Item, ‵, ◌⊛◌, raw, given, some, later, ◌$◌, ◌∵◌, !, qed, by, move, keep, drop, split, split3}
use types.Kit.{join, learn, fsplit, fsplit3, fjoin, use1, use2, await, pick, suffices, frame, done, updating}
use types.Kit.{group, now, show, check, rewrite}
use contract.BorrowLft.{◌⊑◌}
use contract.Lifetimes.{AllOutlive}
use contract.Monad.{Fun, fact_i}
use contract.Running.{tables, tables_of}
use sound.WpLaws.{WpFn-mono}
use denote.Array.{Array}
use denote.Builtin.{RefMutOf, usize, u8}
use denote.Exit.{yes, no}
use denote.Follow.{follows}
use denote.FollowSlice.{lends_Elements}
use denote.Memory.{mem}
use denote.Param.{number, layout, layouts}
use denote.Plain.{uint_vals, uint_Tells}
use denote.RattleType.{owns}
use denote.Ref.{MutBor, MutRef, mut_vals, mut_Tells}
use denote.Signature.{plain}
use denote.Slice.{MutSlice, Room, slice_val}
use denote.Steps.{nothing}
use denote.Triple.Clauses.{Clauses, Ended, closing}
use denote.Triple.Entry.{on_entry}
use denote.Triple.Spec.{Meets, triple_of}
use denote.Triple.Table.{entered}
use denote.Triple.Walked.{says, Stays, stay_dropped, walk_of, ends_at, walked, Goes-dropped, Goes-spent_ref}
use denote.Triple.Walked.{walk_Meets}
use borrow.Table.Elements.{at, at_byte, cut_app, join_app, length-take-le}
use Rattle.ec_wire.specs.Cells.{with_run}
use Rattle.ec_wire.proofs.CellsLists.{around_run, length_slice_range, with_run_whole}
use Rattle.ec_wire.proofs.CellsMemory.{S, first_byte, Frame, bytes_out, bytes_in}
use Rattle.ec_wire.specs.contracts.cells.Cells.run_mut as F
use Rattle.ec_wire.specs.contracts.cells.Cells.run_mut.Key.{name as #self}
use Rattle.ec_wire.proofs.cells.Cells.run_mut.Statement as stated
use Rattle.ec_wire.proofs.cells.Cells.run_mut.Code as code

module _ (n : ℕ) where
  abbrev args : Args
  args = layouts (a_number ∷ []) (number n, tt)

  abbrev function : Fn
  function = inst_fn args code.function

  abbrev ended : Ended
  ended = F.ended (number n)

  abbrev stayed : Stays ended.signature.params ended.kept
  stayed = (
    stay_dropped (RefMutOf (0 ∷ []) tt (plain (λ _. S n)) (λ _. tt)) no,
    (stay_dropped (plain (λ _. usize)) yes, (stay_dropped (plain (λ _. usize)) yes, tt)),
  )

module _ (n : ℕ) {M : Type 1} {𝓤 : Ura M} (𝓛 : Logic 𝓤) where
  open 𝓛 use {H, A}

  -- the loan: the struct c at (b, o) lends its bytes from `from` up to `to`
  module _ (κ : Lft) (q : Share) (b o : ℕ) (γ : GName) (c : (S n).Denot) (from to : ℕ) (ordered : from ≤ to)
      (within : to ≤ n) where
    abbrev start : ℕ
    start = first_byte n o

    abbrev place : ℕ
    place = from + start

    abbrev front : List ℕ
    front = take from c.bytes

    abbrev run : List ℕ
    run = take (to - from) (drop_list from c.bytes)

    abbrev back : List ℕ
    back = drop_list to c.bytes

    abbrev after : List ℕ → (S n).Denot
    after ws = record { bytes = with_run c.bytes from to ws }

    abbrev bytes : List ℕ → ℕ → Fml
    bytes ws = cells (mem u8) ws b

    -- what follows k bytes of the run
    abbrev past : ℕ → ℕ
    past = at place (mem u8).size

    -- all that is not lent
    abbrev Rest : SProp 𝓤
    Rest = sep 𝓤 (sem 𝓛 (bytes front start)) (sep 𝓤 (sem 𝓛 (bytes back (past (length run)))) (Frame n 𝓛 b o))

    reached : length c.bytes ≡ n → at start (mem u8).size (length front) ≡ place
    reached long =
        at_byte start (length front) ∙ ap (λ k. k + start) (length-take-le from c.bytes (omega arith))

    -- the run comes back with as many bytes as it had, and the struct is whole
    returned : length c.bytes ≡ n → (ws : List ℕ) → length ws ≡ length run
        → ent 𝓤 (sep 𝓤 (sem 𝓛 (bytes ws place)) Rest) (sem 𝓛 ((mem (S n)).own_at (after ws) b o))
    returned long ws same =
        let count : length ws ≡ to - from = same ∙ length_slice_range c.bytes from to ordered (omega arith) in
        let whole : front ++ (ws ++ back) ≡ (after ws).bytes =
        sym (with_run_whole c.bytes from to ws count) in
        let outer = length-append front (ws ++ back) in let inner = length-append ws back in
        let first = length-take-le from c.bytes (omega arith) in let last = length-drop to c.bytes in
        let all : length (front ++ (ws ++ back)) ≡ n = omega arith in
        qed 𝓛 (‵ (bytes ws place) ∷ ‵ (bytes front start) ∷ ‵ (bytes back (past (length run)))
        ∷ raw (Frame n 𝓛 b o) ∷ []) ∵
        rewrite ! 2 (λ (k : ℕ). ‵ (bytes back (past k))) (sym same) refl $ move ! (0 ∷ 2 ∷ []) $
        use2 𝓛 (‵ (bytes (ws ++ back) place)) (join_app 𝓛 (mem u8) ws back b place) $
        rewrite ! 0 (λ (k : ℕ). ‵ (bytes (ws ++ back) k)) (sym (reached long)) refl $ move ! (1 ∷ 0 ∷ []) $
        use2 𝓛 (‵ (bytes (front ++ (ws ++ back)) start)) (join_app 𝓛 (mem u8) front (ws ++ back) b start) $
        rewrite ! 0 (λ (l : List ℕ). ‵ (bytes l start)) whole refl $
        by ! (bytes_in n 𝓛 b o (after ws) (sym (ap length whole) ∙ all))

    abbrev Lent : ℕ → GName → SProp 𝓤
    Lent k δ = guard 𝓤 (length run ≡ to - from)
        (sep 𝓤 (sem 𝓛
        ((MutSlice (named 0) κ u8).own_val (record { ref_ptr = (b, place); ghost_name = δ; now = run })
        (slice_val (b, place) k ∷ []))) (sep 𝓤 (A.lft κ q) (sem 𝓛 (follows (S n) (Array u8 0) γ δ after))))

    -- the same, as an item of a walk
    abbrev lent : ℕ → GName → Item 𝓤
    lent k δ = ‵ ((MutSlice (named 0) κ u8).own_val
        (record { ref_ptr = (b, place); ghost_name = δ; now = run }) (slice_val (b, place) k ∷ []))
        ⊛ ‵ (flft κ q) ⊛ ‵ (follows (S n) (Array u8 0) γ δ after)

    lends : n < 2 ^ 63 → (vs : List Val)
        → ent 𝓤 (sep 𝓤
        (sem 𝓛 ((MutRef (named 0) κ (S n)).own_val (record { ref_ptr = (b, o); ghost_name = γ; now = c })
        vs)) (A.lft κ q)) (H.⇛ (ex 𝓤 (Lent (to - from))))
    lends small vs =
        qed 𝓛 (‵ ((MutRef (named 0) κ (S n)).own_val (record { ref_ptr = (b, o); ghost_name = γ; now = c })
        vs) ∷ ‵ (flft κ q) ∷ []) ∵
        updating ! $ fsplit3 ! $ drop ! $ open_ref ! tt (mem (S n)) {b = b} {o = o} $
        use1 𝓛 (given (length c.bytes ≡ n) (‵ (bytes c.bytes start) ⊛ raw (Frame n 𝓛 b o)))
        (bytes_out n 𝓛 b o c) $
        learn ! (λ long. split ! $
        let count : length run ≡ to - from = length_slice_range c.bytes from to ordered (omega arith) in
        let room : Room u8 (length run) = (omega arith, omega arith) in
        rewrite ! 0 (λ (l : List ℕ). ‵ (bytes l start)) (sym (around_run c.bytes from to ordered)) refl $
        use1 𝓛 (‵ (bytes front start) ⊛ ‵ (bytes (run ++ back) (at start (mem u8).size (length front))))
        (cut_app 𝓛 (mem u8) front (run ++ back) b start) $
        split ! $ rewrite ! 1 (λ (k : ℕ). ‵ (bytes (run ++ back) k)) (reached long) refl $ move ! (1 ∷ []) $
        use1 𝓛 (‵ (bytes run place) ⊛ ‵ (bytes back (past (length run))))
        (cut_app 𝓛 (mem u8) run back b place) $
        -- [the run; what follows it; what comes before it; the frame; the open borrow, in three entries]
        split ! $ move ! (1 ∷ 3 ∷ []) $ join ! $ move ! (2 ∷ 0 ∷ []) $ join ! $
        move ! (2 ∷ 3 ∷ 4 ∷ 1 ∷ 0 ∷ []) $ group ! 5 $
        use1 𝓛 (later (some (lent (length run))))
        (lends_Elements 𝓛 (S n) u8 after (named 0) κ q b o b place γ run room Rest (returned long)
        ((S n).coded.code c) ((S n).coded.code c)) $
        await ! tt $ pick ! (λ δ. rewrite ! 0 (λ (k : ℕ). lent k δ) count refl $ now ! $
        show ! (Lent (to - from)) δ $ check ! count $ done !))

  module _ (at_mem : Memory → SProp 𝓤) (routine : Routine → Fun 𝓤) where
    abbrev clauses : Clauses 𝓤 (ended n)
    clauses = F.clauses (number n) 𝓛 at_mem routine

    module _ (C : Calls 𝓤 H) (Λ : Loops 𝓤 H) (κ κN : Lft) (q qN : Share)
        (bounds : AllOutlive 2 (ended n).signature.outlives (κ, (κN, tt))) (b o : ℕ) (γ : GName)
        (c : (S n).Denot) (from to : ℕ) where
      abbrev self : MutBor (S n).Denot
      self = record { ref_ptr = (b, o); ghost_name = γ; now = c }

      abbrev bound : (walk_of 𝓛 (ended n) (stayed n) clauses).Ghost
      bound = (
        (
          (κ, (κN, tt)),
          (q, (qN, tt)),
          bounds,
          (self, (from, (to, tt))),
          (mut_vals self, (vint w64 from ∷ [], (vint w64 to ∷ [], tt))),
        ),
        tt,
      )

      walk : (ordered : from ≤ to) (within : to ≤ n) → from < 2 ^ 64 → to < 2 ^ 64 → n < 2 ^ 63
          → ent 𝓤 (on_entry 𝓛 (ended n).signature (κ, (κN, tt)) (q, (qN, tt)) (self, (from, (to, tt)))
          (mut_vals self, (vint w64 from ∷ [], (vint w64 to ∷ [], tt))))
          (WpFn 𝓤 H C Λ (function n) (vptr b o ∷ vint w64 from ∷ vint w64 to ∷ [])
          ((walk_of 𝓛 (ended n) (stayed n) clauses).post bound))
      walk ordered within from_fits to_fits small =
          let there : ℕ = from + first_byte n o in
          let run : List ℕ = take (to - from) (drop_list from c.bytes) in
          let count_fits : to - from < 2 ^ 64 = omega arith in
          qed 𝓛 ((‵ (flft κ q) ⊛ ‵ (flft κN qN) ⊛ ‵ ftrue)
          ∷ ‵ (owns (MutRef (named 0) κ (S n) ∷ usize ∷ usize ∷ []) (self, (from, (to, tt)))
          (mut_vals self, (vint w64 from ∷ [], (vint w64 to ∷ [], tt)))) ∷ []) ∵
          enter ! C Λ (function n) (vptr b o ∷ vint w64 from ∷ vint w64 to ∷ []) _ $
          alloc_all ! (λ l.
          pass_all ! refl
          ((tt, tt), ((tt, record { fits = from_fits }), ((tt, record { fits = to_fits }), tt))) $
          sets ! (addr ! (through ! refl (fld ! refl (stop !)))) refl (tt, tt) $
          sets ! (bin ! (get ! refl) (get ! refl) tt) refl (tt, tt) $
          sets ! (bin ! (get ! refl) (get ! refl) ordered) refl (tt, record { fits = count_fits }) $
          sets ! (addr ! (through ! refl (stop !))) refl (tt, tt) $
          sets ! (agg ! (and_then ! (get ! refl) (and_then ! (get ! refl) (no_more !)))) refl
          (tt, (tt, (record { fits = count_fits }, tt))) $
          split ! $ move ! (2 ∷ []) $ fsplit ! $ move ! (0 ∷ 2 ∷ []) $
          use2 𝓛 (later
          (some (λ (δ : GName).
          given (length run ≡ to - from) (lent κ q b o γ c from to ordered within (to - from) δ))))
          (lends κ q b o γ c from to ordered within small (mut_vals self)) $
          await ! tt $ pick ! (λ δ. learn ! (λ count.
          returns ! (look_at ! 0 refl) $ free_all ! refl $ keep ! (0 ∷ 2 ∷ []) $ split3 ! $
          suffices ! _ (ends_at 𝓛 (ended n) (stayed n) clauses bound (slice_val (b, there) (to - from))
          (record { ref_ptr = (b, there); ghost_name = δ; now = run }) (tt, (tt, (tt, tt)))
          (tt, (tt, (tt, tt)))) $
          nothing ! $ nothing ! $ fjoin ! $ nothing ! $ fjoin ! $ nothing ! $ fjoin ! $ join ! $
          move ! (1 ∷ 3 ∷ []) $ join ! $ join ! $ frame ! $ frame ! $ says ! count $
          by ! (fact_i 𝓤 (run ≡ run) (emp 𝓤) refl))))

    meets : (𝓣 : Tables 𝓤 H)
        → Meets 𝓛 (ended n).signature (WpFn 𝓤 H 𝓣.C 𝓣.Λ (function n)) (closing 𝓛 (ended n) clauses)
    meets 𝓣 =
        let count = Goes-dropped 𝓛 2 (plain (λ _. usize)) yes (λ κs x f. refl) in
        walk_Meets 𝓛 (ended n) (stayed n) (
          Goes-spent_ref 𝓛 2 (0 ∷ []) tt (plain (λ _. S n)),
          (count, (count, tt)),
        ) clauses (WpFn 𝓤 H 𝓣.C 𝓣.Λ (function n)) (WpFn-mono 𝓤 H 𝓛.laws 𝓣 (function n))
        (walked 𝓛 (ended n) (stayed n) clauses (WpFn 𝓤 H 𝓣.C 𝓣.Λ (function n))
        (λ κs. (mut_vals, (uint_vals w64, (uint_vals w64, tt))))
        (λ κs. (mut_Tells (named 0) κs.0 (S n), (uint_Tells w64, (uint_Tells w64, tt))))
        (λ κs qs bounds a g are.
        qed 𝓛 (raw (on_entry 𝓛 (ended n).signature κs qs a
        (mut_vals a.0, (vint w64 a.1.0 ∷ [], (vint w64 a.1.1.0 ∷ [], tt))))
        ∷ (given (κs.1.0 ⊑ []) (‵ ftrue) ⊛ given (size (layout (S n)) < 2 ^ 63) (‵ ftrue)
        ⊛ given (a.1.0 ≤ a.1.1.0) (‵ ftrue) ⊛ given (a.1.1.0 ≤ n) (‵ ftrue)) ∷ []) ∵
        move ! (1 ∷ []) $ split3 ! $ drop ! $
        learn ! (λ fits. drop ! $ split ! $ learn ! (λ ordered. drop ! $ learn ! (λ within. drop ! $
        by ! (walk 𝓣.C 𝓣.Λ κs.0 κs.1.0 qs.0 qs.1.0 bounds a.0.ref_ptr.0 a.0.ref_ptr.1 a.0.ghost_name a.0.now
        a.1.0 a.1.1.0 ordered within are.1.0.1 are.1.1.0.1 (omega arith)))))))

pub run_mut_spec : {M : Type 1} → stated.statement M
unfolding tables_of
run_mut_spec 𝓤 𝓛 𝓜 𝓡 wired n fits =
    let 𝓣 : Tables 𝓤 𝓛.H = tables_of 𝓤 𝓛.H 𝓜 (tables 𝓤 𝓛.H 𝓜 𝓡 𝓡.env) in
    entered 𝓤 𝓛.H (triple_of 𝓛 (ended n).signature (F.spec (number n) 𝓛 𝓜.mem 𝓡.returns)) 𝓣.C 𝓣.Λ
    (#self (args n)) (function n) (code.unfolded 𝓤 𝓛.H 𝓜 𝓡 wired (number n, tt))
    (meets n 𝓛 𝓜.mem 𝓡.returns 𝓣)
