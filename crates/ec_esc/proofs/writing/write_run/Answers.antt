use Rattle.std.proofs.Common.{◌≡◌, ℕ, ◌+◌, ◌<◌, length, get_or, refl, ◌∙◌, ap, arith}
use Rattle.ec_areas.specs.Ranges.{takes_writes}
use Rattle.ec_esc.proofs.WrittenLemmas.{written_byte, written_none, written_more, written_length}
use Rattle.ec_esc.proofs.WrittenLemmas.{written_run, among, among_behind}
use Rattle.ec_esc.proofs.writing.write_run.Goals as goal

pub loop-place-init : goal.loop-place-init
loop-place-init c = record {
  bytes = λ a. written_none (takes_writes c.args.memory.now) c.args.memory.now c.args.payload.now
      c.args.from a;
  size = refl;
}

pub loop-place-preserved : goal.loop-place-preserved
loop-place-preserved c =
    let arrived = c.args.memory.now in
    let at = c.args.from + c.loop-place.place in
    let inside : at < length c.loop-place.memory = omega (arith, c.loop-place.invariant.size) in
    let step = c.write_byte.ensures arrived c.requires.records in
    record {
      bytes =
          written_more (takes_writes arrived) arrived c.args.payload.now c.loop-place.memory
          c.write_byte.new.memory c.args.from c.loop-place.place
          (get_or c.args.payload.now c.loop-place.place 0) c.loop-place.invariant.bytes inside refl step;
      size =
          written_length (takes_writes arrived at) c.loop-place.memory c.write_byte.new.memory at
          (get_or c.args.payload.now c.loop-place.place 0) step
          ∙ c.loop-place.invariant.size;
    }

pub returns-clause-size : goal.returns-clause-size
returns-clause-size c = c.loop-place.invariant.size ∙ c.requires.size

pub returns-clause-written : goal.returns-clause-written
returns-clause-written c =
    let arrived = c.args.memory.now in
    let payload = c.args.payload.now in
    let test = takes_writes arrived in
    let all : c.loop-place.place ≡ length payload = omega arith in
    written_run (among test c.args.from (length payload)) c.loop-place.memory arrived payload c.args.from
    c.loop-place.invariant.size
    c.requires.bytes (λ k. omega (arith, c.type_inv.payload k)) (λ a. among_behind test c.args.from
    (length payload) a)
    (λ a. c.loop-place.invariant.bytes a ∙ ap (λ (n : ℕ). written_byte
    (among test c.args.from n) arrived payload c.args.from a) all)
