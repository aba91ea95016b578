-- One option more, as the definition of the time resolution goes over them.
use Rattle.std.proofs.Common.{◌≡◌, ℕ, ◌<◌, ◌-◌, ◌+◌, suc, List, drop, arith, ap, ◌∙◌}
use Rattle.ecat_capture.specs.Blocks.{next_option, resolution_within, resolved}
use Rattle.ecat_capture.specs.declared.order.Order.{Order}
use Rattle.ecat_capture.specs.declared.blocks.NextOption.{NextOption}
use Rattle.ecat_capture.specs.declared.blocks.NextOption.TheVariants as next

module _ (end at : ℕ) (order : Order) (rest : List ℕ) (more : at < end) where
  resolution-next : (option : NextOption) → next_option order rest ≡ option
      → resolution_within (end - at) order rest ≡ resolved (resolution_within (end - (at + 1)) order) rest option
  resolution-next option is =
      let step : end - at ≡ suc (end - (at + 1)) = omega arith in
      ap (λ n. resolution_within n order rest) step
      ∙ ap (resolved (resolution_within (end - (at + 1)) order) rest) is

  pub resolution-ends : next_option order rest ≡ next.End → resolution_within (end - at) order rest ≡ 6
  resolution-ends is = resolution-next next.End is

  pub resolution-found : (value : ℕ) → next_option order rest ≡ next.Resolution value
      → resolution_within (end - at) order rest ≡ value
  resolution-found value is = resolution-next (next.Resolution value) is

  pub resolution-goes_on : (size : ℕ) → next_option order rest ≡ next.Other size
      → resolution_within (end - at) order rest ≡ resolution_within (end - (at + 1)) order (drop size rest)
  resolution-goes_on size is = resolution-next (next.Other size) is
