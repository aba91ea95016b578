-- The frame grows by the datagram of one item after the other, as long as they fit.
use Rattle.std.proofs.Common.{◌≡◌, ◌<◌, ◌≤◌, ◌+◌, ◌∙◌, ℕ, suc, arith, ap, sym, refl, add-one, List, [], ◌∷◌}
use Rattle.std.proofs.Common.{◌++◌, length, drop}
use Rattle.std.proofs.lemmas.List.{drop_all}
use Rattle.ec_line.specs.After.{Entry}
use Rattle.ec_line.specs.Answered.{sent_of}
use Rattle.ec_map.specs.Item.{ItemRecord}
use Rattle.ec_wire.specs.Datagram.{DatagramRecord, datagram_length, record_of}
use Rattle.ec_wire.specs.Spelling.{body_length}
use Rattle.ec_wire.specs.declared.layout.TheConstants.{MAX_LENGTH}
use Rattle.ec_master.specs.Cut.{entry_of, entries_from, filled}
use Rattle.ec_master.specs.Work.{nth_item, no_item}
use Rattle.ec_master.proofs.CutLemmas.{entries-cons, filled-more, filled-full, filled-none, sent_of-more}
use Rattle.ec_master.proofs.CutLemmas.{fits-more, fits-no_more, not_full}
use Rattle.ec_master.proofs.cut.frame_from.Goals as goal

pub loop-k-init : goal.loop-k-init
loop-k-init c =
    let items = c.args.work.now in
    let first : ℕ = c.args.first in
    record {
      entries = entry_of (nth_item items first) first ∷ [];
      frame = c.of-frame.ensures ∙ ap (λ (d : DatagramRecord). d ∷ []) c.datagram-datagram.ensures.datagram;
      inside = omega (arith, c.requires);
      rest = rw (add-one first, entries-cons first items no_item c.requires) refl;
    }

-- what the frame and the pushed datagram take is what the entries take
over : (es : List Entry) (e : Entry) (frame : List DatagramRecord) (d : DatagramRecord) → frame ≡ sent_of es
    → d ≡ e.sent
    → MAX_LENGTH < body_length frame + datagram_length d
    → MAX_LENGTH < body_length (sent_of es) + datagram_length e.sent
over es e frame d same one h = omega (arith, h, ap body_length same, ap datagram_length one)

within : (es : List Entry) (e : Entry) (frame : List DatagramRecord) (d : DatagramRecord) → frame ≡ sent_of es
    → d ≡ e.sent
    → body_length frame + datagram_length d ≤ MAX_LENGTH
    → body_length (sent_of es) + datagram_length e.sent ≤ MAX_LENGTH
within es e frame d same one h = omega (arith, h, ap body_length same, ap datagram_length one)

pub returns-in-Err : goal.returns-in-Err
returns-in-Err c =
    let items = c.args.work.now in
    let k : ℕ = c.loop-k.k in
    let es = c.loop-k.invariant.entries in
    let e : Entry = entry_of (nth_item items k) k in
    let full : MAX_LENGTH < body_length (sent_of es) + datagram_length e.sent
    = over es e _ _ c.loop-k.invariant.frame c.put_datagram.ensures
    (c.in-Err.ensures.full.0 refl) in
    let inside : k < length items = omega (arith, c.loop-k-test.true, c.len-k-end.ensures.count) in
    c.in-Err.ensures.err ∙ c.loop-k.invariant.frame
    ∙ ap sent_of
    (sym (filled-full es (entries_from (suc k) (drop (suc k) items)) e (fits-no_more es e full))
    ∙ ap (filled es) (sym (entries-cons k items no_item inside))
    ∙ c.loop-k.invariant.rest)

pub loop-k-preserved : goal.loop-k-preserved
loop-k-preserved c =
    let items = c.args.work.now in
    let k : ℕ = c.loop-k.k in
    let es = c.loop-k.invariant.entries in
    let e : Entry = entry_of (nth_item items k) k in
    let inside : k < length items = omega (arith, c.loop-k-test.true, c.len-k-end.ensures.count) in
    let pushed : c.push.new.self ≡ sent_of es ++ e.sent ∷ []
    = c.in-Ok.ensures.ok
    ∙ ap (λ (ds : List DatagramRecord). ds ++ record_of c.put_datagram.new.datagram ∷ [])
    c.loop-k.invariant.frame
    ∙ ap (λ (d : DatagramRecord). sent_of es ++ d ∷ []) c.put_datagram.ensures in
    let fits : body_length (sent_of es) + datagram_length e.sent ≤ MAX_LENGTH
    = within es e _ _ c.loop-k.invariant.frame c.put_datagram.ensures
    (not_full _ _ c.in-Ok.ensures.full.1) in
    record {
      entries = es ++ e ∷ [];
      frame = pushed ∙ sym (sent_of-more es e);
      inside = omega (arith, inside);
      rest =
          rw (add-one k)
          (sym (filled-more es (entries_from (suc k) (drop (suc k) items)) e (fits-more es e fits))
          ∙ ap (filled es) (sym (entries-cons k items no_item inside))
          ∙ c.loop-k.invariant.rest);
    }

pub returns : goal.returns
unfolding entries_from
returns c =
    let items = c.args.work.now in
    let k : ℕ = c.loop-k.k in
    let none : drop k items ≡ [] =
    drop_all k items (omega (arith, c.loop-k-test.false, c.len-k-end.ensures.count)) in
    c.loop-k.invariant.frame
    ∙ ap sent_of
    (sym (filled-none c.loop-k.invariant.entries)
    ∙ ap (λ (rs : List ItemRecord). filled c.loop-k.invariant.entries (entries_from k rs)) (sym none)
    ∙ c.loop-k.invariant.rest)
