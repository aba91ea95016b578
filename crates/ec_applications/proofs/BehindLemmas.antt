-- What is left of a line once its applications have acted and its EEPROMs have answered.
use Rattle.std.proofs.Common.{◌≡◌, ◌≢◌, ℕ, ◌<◌, length, Some, get_or, ◌∙◌, arith}
use Rattle.std.proofs.lemmas.Option.{slice_get-get_or, slice_get_within}
use Rattle.std.specs.List.{All}
use Rattle.std.specs.Prelude.{slice_get}
use Rattle.ec_app.specs.State.{SlaveState}
use Rattle.ec_ring.specs.Ring.{RingState}
use Rattle.ec_applications.specs.Behind.{line_acted, line_behind}
use Rattle.ec_applications.specs.Left.{HasMemory, KeepsAllElse, KeepsAllButAnswers}
use Rattle.ec_applications.specs.State.{ApplicationsState, once_more}
use Rattle.ec_applications.specs.declared.application.Application.{Application}
use Rattle.ec_applications.specs.declared.eeproms.PlacedEeprom.{PlacedEeprom}
use Rattle.ec_applications.proofs.EepromLemmas.{LeavesAllElse, all_leave, process_beside, served_length}
use Rattle.ec_applications.proofs.EepromLemmas.{served_links, served_others}
use Rattle.ec_applications.proofs.LeftLemmas.{acted-size, acted-links, acted-beside, acted-stays}
use Rattle.ec_applications.proofs.RepeatLemmas.{device_same, repeats_by, repeats_process}

pub behind-links : (s : ApplicationsState) (r : RingState) → (line_behind s r).links ≡ r.links
behind-links s r = served_links s.eeproms (line_acted s r) ∙ acted-links (once_more s).acted s.all r

pub behind-size : (s : ApplicationsState) (r : RingState) → length (line_behind s r).slaves ≡ length r.slaves
behind-size s r = served_length s.eeproms (line_acted s r) ∙ acted-size (once_more s).acted s.all r

pub behind-beside : (s : ApplicationsState) (r : RingState) (k : ℕ)
    → All (λ (one : Application). one.place ≢ k) s.all
    → All (λ (one : PlacedEeprom). one.place ≢ k) s.eeproms
    → slice_get (line_behind s r).slaves k ≡ slice_get r.slaves k
behind-beside s r k idle none =
    served_others s.eeproms (line_acted s r) k none ∙ acted-beside (once_more s).acted s.all r k idle

pub behind-stays : (s : ApplicationsState) (r : RingState) (k : ℕ) (before after : SlaveState)
    → slice_get r.slaves k ≡ Some before → slice_get (line_behind s r).slaves k ≡ Some after
    → HasMemory before → KeepsAllButAnswers before after
behind-stays s r k before after there later size =
    let next : RingState = line_acted s r in
    let inside : k < length next.slaves =
    rw (acted-size (once_more s).acted s.all r) (slice_get_within r.slaves k before there) in
    let mid : SlaveState = get_or next.slaves k before in
    let at : slice_get next.slaves k ≡ Some mid = slice_get-get_or next.slaves k before inside in
    let first : KeepsAllElse before mid =
    acted-stays (once_more s).acted s.all r k before mid there at size in
    let second : LeavesAllElse mid after =
    all_leave s.eeproms next k mid after at later (first.size ∙ size) in
    record {
      application = second.application ∙ first.application;
      shown = second.shown ∙ first.shown;
      written = second.written ∙ first.written;
      size = second.size ∙ first.size;
      registers = λ address below beside other.
          second.bytes address beside
          (repeats_by before.controller.memory mid.controller.memory address
          (device_same before.controller.memory mid.controller.memory (first.registers 0 (omega arith))) other)
          ∙ first.registers address below;
      outputs = λ address process free.
          second.bytes address (process_beside address process)
          (repeats_process mid.controller.memory address process)
          ∙ first.outputs address process free;
    }
