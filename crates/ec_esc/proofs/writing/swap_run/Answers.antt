use Rattle.std.proofs.Common.{◌≡◌, ℕ, ◌+◌, ◌<◌, length, get_or, set, refl, ◌∙◌, ap, arith, get_or-set_same}
use Rattle.std.proofs.Common.{get_or-set_other, below_more}
use Rattle.ec_regs.proofs.Laws.{copied_run, AreBytes-run}
use Rattle.ec_areas.specs.Ranges.{takes_writes}
use Rattle.ec_esc.proofs.WrittenLemmas.{written_byte, written_none, written_more, written_length}
use Rattle.ec_esc.proofs.WrittenLemmas.{written_run, written_waiting, among, among_behind}
use Rattle.ec_esc.proofs.writing.swap_run.Goals as goal

pub loop-place-init : goal.loop-place-init
loop-place-init c = record {
  bytes = λ a. written_none (takes_writes c.args.memory.now) c.args.memory.now c.args.payload.now
      c.args.from a;
  data_bytes = λ k. omega (arith, c.type_inv.payload k);
  size = refl;
  read = λ k below. absurd (omega arith);
  waiting = λ _ _. refl;
}

pub loop-place-preserved : goal.loop-place-preserved
loop-place-preserved c =
    let arrived = c.args.memory.now in
    let came = c.args.payload.now in
    let from = c.args.from in
    let place = c.loop-place.place in
    let at = from + place in
    let test = takes_writes arrived in
    let byte = get_or c.loop-place.payload place 0 in
    let inside : at < length c.loop-place.memory = omega (arith, c.loop-place.invariant.size) in
    let room : place < length c.loop-place.payload = omega arith in
    let step = c.write_byte.ensures arrived c.requires.records in
    let found : c.byte-found.result ≡ get_or arrived at 0 =
    c.byte-found.ensures ∙ c.loop-place.invariant.bytes at ∙ written_waiting test arrived came from place in
    record {
      bytes =
          written_more test arrived came c.loop-place.memory c.write_byte.new.memory from place byte
          c.loop-place.invariant.bytes inside (c.loop-place.invariant.waiting place (omega arith)) step;
      data_bytes = c.loop-place.invariant.data_bytes;
      size =
          written_length (test at) c.loop-place.memory c.write_byte.new.memory at byte step
          ∙ c.loop-place.invariant.size;
      read = below_more (λ (k : ℕ). get_or (set c.loop-place.payload place c.byte-found.result) k 0
          ≡ get_or arrived (from + k) 0) place
          (λ k below. get_or-set_other c.loop-place.payload place k c.byte-found.result 0 (omega arith)
          ∙ c.loop-place.invariant.read k below)
          (get_or-set_same c.loop-place.payload place c.byte-found.result 0 room ∙ found);
      waiting = λ k behind.
          get_or-set_other c.loop-place.payload place k c.byte-found.result 0 (omega arith)
          ∙ c.loop-place.invariant.waiting k (omega arith);
    }

pub returns-clause-size : goal.returns-clause-size
returns-clause-size c = c.loop-place.invariant.size ∙ c.requires.size

pub returns-clause-written : goal.returns-clause-written
returns-clause-written c =
    let arrived = c.args.memory.now in
    let came = c.args.payload.now in
    let test = takes_writes arrived in
    let all : c.loop-place.place ≡ length came = omega arith in
    written_run (among test c.args.from (length came)) c.loop-place.memory arrived came c.args.from
    c.loop-place.invariant.size
    c.requires.bytes c.loop-place.invariant.data_bytes (λ a. among_behind test c.args.from (length came) a)
    (λ a. c.loop-place.invariant.bytes a ∙ ap (λ (n : ℕ). written_byte
    (among test c.args.from n) arrived came c.args.from a) all)

pub returns-clause-read : goal.returns-clause-read
returns-clause-read c =
    let arrived = c.args.memory.now in
    let came = c.args.payload.now in
    let size : length c.loop-place.payload ≡ length came = omega arith in
    let read : (k : ℕ) → k < length came → get_or c.loop-place.payload k 0
    ≡ get_or arrived (c.args.from + k) 0 =
    λ k inside. c.loop-place.invariant.read k (omega arith) in
    copied_run c.loop-place.payload came arrived c.args.from size
    (AreBytes-run c.loop-place.payload arrived c.args.from (length came)
    (omega arith) c.requires.bytes read) read
