-- The plan of an FMMU tells its pairs by bytes: which logical bytes, which bits of them, and how far the bits
-- move (IEC 61158-4-12, FMMU entity).
use Rattle.std.specs.Prelude.{◌≡◌, ◌==◌, ℕ, ◌+◌, ◌-◌, ◌*◌, ◌/◌, ◌%◌, ◌^◌, ◌<◌, ◌≤◌, true, false, nat_lt}
use Rattle.std.specs.Prelude.{if◌then◌else◌, pos, ◌+ℤ◌, ◌-ℤ◌}
use Rattle.std.specs.Prelude.{bit_and}
use Rattle.std.specs.Int.{bit_at}
use Rattle.ec_regs.specs.declared.fmmu.Fmmu.{Fmmu}
use Rattle.ec_regs.specs.declared.plan.Plan.{Plan}
use Rattle.ec_regs.specs.Pairs.{pair_count}

-- the bits of a byte from one on, and those up to one
abbrev pub mask_from : ℕ → ℕ
mask_from start = 2 ^ 8 - 2 ^ start

abbrev pub mask_to : ℕ → ℕ
mask_to stop = 2 ^ (stop + 1) - 1

-- the plan of an FMMU that maps nothing
abbrev pub no_plan : Plan
no_plan = record {
  is_mapped = false;
  logical = 0;
  physical = 0;
  length = 0;
  first_mask = 0;
  last_mask = 0;
  distance = pos 0;
}

-- the plan of one that maps
abbrev pub mapped_plan : Fmmu → Plan
mapped_plan f = record {
  is_mapped = true;
  logical = f.logical;
  physical = f.physical;
  length = f.length;
  first_mask = if f.length == 1 then bit_and (mask_from f.start) (mask_to f.stop) else mask_from f.start;
  last_mask = if f.length == 1 then bit_and (mask_from f.start) (mask_to f.stop) else mask_to f.stop;
  distance = pos f.bit -ℤ pos f.start;
}

-- the plan of an FMMU
unfoldable pub plan_of : Fmmu → Plan
plan_of f = if nat_lt 0 (pair_count f) then mapped_plan f else no_plan

-- the mapped bits of byte number k of the run
abbrev pub mask_at : Plan → ℕ → ℕ
mask_at plan k =
    if k == 0 then plan.first_mask else (if k + 1 == plan.length then plan.last_mask else 2 ^ 8 - 1)

-- the plan pairs logical bit l with physical bit p: the logical byte is one of the run, the bit is in its
-- mask, and the physical bit stands at the distance from it
pub record Pairs (plan : Plan) (l p : ℕ) : Type 0 where
  pub mapped : plan.is_mapped ≡ true
  pub starts : plan.logical ≤ l / 8
  pub ends : l / 8 < plan.logical + plan.length
  pub masked : bit_at (mask_at plan (l / 8 - plan.logical)) (l % 8) ≡ 1
  pub moved : pos (p + 8 * plan.logical) ≡ pos (l + 8 * plan.physical) +ℤ plan.distance

-- an FMMU has this plan, and so many pairs
pub record IsPlanned (f : Fmmu) (plan : Plan) (bits : ℕ) : Type 0 where
  pub plan_is : plan ≡ plan_of f
  pub bits_are : bits ≡ pair_count f
  pub bound : bits < 2 ^ 20
