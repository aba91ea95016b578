-- `Cells` in memory is its bytes, side by side.
use mathlib.Core.Path.{◌≡◌, refl, sym}
use Prim.Native.Nat.{ℕ, zero, ◌+◌}
use mathlib.Core.List.{[], ◌∷◌, List}
use lib.ListN.{length}
use seplogic.Ra.Ura.{Ura}
use mir.Syntax.{Ty, ty_array, ty_struct}
use base.Logic.{SProp, ent, sep, guard}
use base.Fraction.{full_share}
use base.Fml.{Fml, ftrue, fsep, feq}
use prog.Memory.{align, up}
use types.Logic.{Logic, sem}
use types.SemTy.{cells}
use types.Kit.{‵, ◌⊛◌, raw, ◌$◌, ◌∵◌, !, qed, move, drop, split, fsplit, fjoin, use1, use2, done, rewrite}
use types.Kit.{feq_l, feq_i, check}
use denote.ArrayMemory.{Array-apart, Array-whole}
use denote.Array.{Array}
use denote.Builtin.{u8}
use denote.Index.{row, whole_in, whole_out}
use denote.Memory.{mem, part_at}
use denote.Param.{param, number, layout, ArrayAt}
use denote.RattleType.{RattleType}
use denote.Steps.{nothing}
use denote.Struct.Declared.{shape}
use denote.Struct.Laws.{u8-laws}
use denote.Struct.Field.{u8-field}
use denote.Struct.Loose.{loosen, array_loose}
use denote.Struct.Members.{Member, raw_tys}
use denote.Struct.Parts.{shape_of, Struct-left, left_Struct}
use denote.Struct.Recorded.{Recorded-part}
use denote.Struct.Struct.{Struct}
use Rattle.ec_wire.specs.contracts.cells.Cells.{the_row, the_type}

module _ (n : ℕ) where
  -- the count as a row, and the struct's row at it
  abbrev pub N : RattleType
  N = param 0 (number n)

  abbrev pub S : RattleType
  S = the_row N

  abbrev array : Ty
  array = ty_array (layout u8) n

  abbrev fields : List Member
  fields = record { row = ArrayAt u8 N; ty = array } ∷ []

  abbrev Fields : RattleType
  Fields = Struct (shape_of (the_type N).name fields)

  -- where the first byte lies in a struct at the offset o
  abbrev pub first_byte : ℕ → ℕ
  first_byte o = o + up (align array) zero

  -- the struct in memory is the tuple of its one field
  as_fields : (c : S.Denot) (b o : ℕ)
      → part_at S full_share c b o ≡ part_at Fields full_share (c.bytes, tt) b o
  as_fields c b o = let D = the_type N in Recorded-part (Struct (shape D)) D.D D.to D.to_one full_share c b o

  module _ {M : Type 1} {𝓤 : Ura M} (𝓛 : Logic 𝓤) (b o : ℕ) where
    open 𝓛 use {H}

    -- what the struct is without its bytes
    abbrev pub Frame : SProp 𝓤
    Frame = H.left full_share (ty_struct [] (raw_tys fields)) (raw_tys fields) b o

    -- the bytes come out of the struct, and there are n of them
    pub bytes_out : (c : S.Denot)
        → ent 𝓤 (sem 𝓛 ((mem S).own_at c b o))
        (guard 𝓤 (length c.bytes ≡ n) (sep 𝓤 (sem 𝓛 (cells (mem u8) c.bytes b (first_byte o))) Frame))
    bytes_out c =
        let one = (array_loose u8-field (loosen u8-field u8-laws) n).single in
        qed 𝓛 (‵ (part_at S full_share c b o) ∷ []) ∵
        rewrite ! 0 (λ (F : Fml). ‵ F) (as_fields c b o) refl $
        use1 𝓛 (‵ (fsep (part_at (Array u8 n) full_share c.bytes b (first_byte o)) ftrue) ⊛ raw Frame)
        (Struct-left 𝓛 full_share (the_type N).name fields (one, tt) (c.bytes, tt) b o) $
        split ! $ fsplit ! $ move ! (1 ∷ []) $ drop ! $
        use1 𝓛 (‵ (fsep (feq ℕ (length c.bytes) n) (row u8 full_share c.bytes b (first_byte o))))
        (Array-apart 𝓛 u8 full_share tt n c.bytes b (first_byte o)) $ fsplit ! $ feq_l ! (λ long.
        use1 𝓛 (‵ (cells (mem u8) c.bytes b (first_byte o))) (whole_in 𝓛 u8 c.bytes b (first_byte o)) $
        check ! long $ done !)

    -- n bytes make the struct again
    pub bytes_in : (c : S.Denot) → length c.bytes ≡ n
        → ent 𝓤 (sep 𝓤 (sem 𝓛 (cells (mem u8) c.bytes b (first_byte o))) Frame) (sem 𝓛 ((mem S).own_at c b o))
    bytes_in c long =
        qed 𝓛 (‵ (cells (mem u8) c.bytes b (first_byte o)) ∷ raw Frame ∷ []) ∵
        use1 𝓛 (‵ (row u8 full_share c.bytes b (first_byte o))) (whole_out 𝓛 u8 c.bytes b (first_byte o)) $
        feq_i ! ℕ (length c.bytes) n long $ fjoin ! $
        use1 𝓛 (‵ (part_at (Array u8 n) full_share c.bytes b (first_byte o)))
        (Array-whole 𝓛 u8 full_share n c.bytes b (first_byte o)) $
        nothing ! $ move ! (1 ∷ 0 ∷ []) $ fjoin ! $
        use2 𝓛 (‵ (part_at Fields full_share (c.bytes, tt) b o))
        (left_Struct 𝓛 full_share (the_type N).name fields (c.bytes, tt) b o) $
        rewrite ! 0 (λ (F : Fml). ‵ F) (sym (as_fields c b o)) refl $ done !
