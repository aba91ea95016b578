-- A frame that slaves answered, each at its moment, is answered by slaves that are mapped as they were; so
-- frame after frame, with the items that each carries.
use Rattle.std.proofs.Common.{◌≡◌, ℕ, suc, sym, subst, ◌∙◌, ap, refl}
use Rattle.std.proofs.Common.{List, [], ◌∷◌, ◌++◌, length, take, drop}
use Rattle.std.specs.List.{AllByRecursion}
use Rattle.ec_regs.proofs.Laws.{each-map, each-front, each-back, each-take, each-drop}
use Rattle.ec_wire.specs.Datagram.{DatagramRecord}
use Rattle.ec_app.specs.State.{SlaveState}
use Rattle.ec_esc.specs.State.{ControllerState}
use Rattle.ec_line.specs.Accepted.{Accepts, AcceptsAll}
use Rattle.ec_line.specs.After.{Entry}
use Rattle.ec_line.specs.Answered.{AnsweredFrame}
use Rattle.ec_line.specs.Fit.{IsFitAlone, IsFitLine}
use Rattle.ec_line.specs.Moving.{AllAlike, Visit, seen, front_of, AnsweredAtMoments}
use Rattle.ec_line.specs.Trip.{Trip}
use Rattle.ec_line.proofs.Laws.{alike_fit, alike_accepts}
use Rattle.ec_map.specs.Item.{ItemRecord, IsItem}
use Rattle.ec_map.specs.Share.{request_of}
use Rattle.ec_ring.specs.Ring.{controllers, with_controllers}
use Rattle.ec_master.specs.Covered.{InputsStand}
use Rattle.ec_master.specs.Cut.{concat, entry_of, entries_from}
use Rattle.ec_master.specs.Moments.{IsFrameAtMoments, FramesAtMoments}
use Rattle.ec_master.specs.Unordered.{by_station, AreAnswers}
use Rattle.ec_master.specs.Work.{with_answer, with_answers}
use Rattle.ec_master.proofs.AnswerLemmas.{answers_over, entries_of}
use Rattle.ec_master.proofs.CoveredLemmas.{at_first, inputs_now}
use Rattle.ec_master.proofs.StationLemmas.{each-controller, by_station_each}

-- ---- slaves with other controllers

-- slaves with other controllers, as many as there are
controllers-with : (ss : List SlaveState) (cs : List ControllerState) → AllAlike (controllers ss) cs
    → controllers (with_controllers ss cs) ≡ cs
controllers-with [] [] alike = refl
controllers-with [] (c ∷ cs) alike = absurd alike
controllers-with (s ∷ ss) [] alike = absurd alike
controllers-with (s ∷ ss) (c ∷ cs) alike =
    ap (λ (l : List ControllerState). c ∷ l) (controllers-with ss cs alike.1)

-- ---- one frame

-- a line that is fit and accepts items
record TakesAll (line : List ControllerState) (k : ℕ) (items : List ItemRecord) : Type 0 where
  fit : IsFitLine line
  accepts : AllByRecursion (AcceptsAll (entries_from k items)) line

-- so does one whose controllers are alike
takes_alike : (xs ys : List ControllerState) (k : ℕ) (items : List ItemRecord) → AllAlike xs ys
    → TakesAll xs k items → TakesAll ys k items
takes_alike xs ys k items alike takes = record {
  fit = alike_fit xs ys alike takes.fit;
  accepts = alike_accepts (entries_from k items) xs ys alike takes.accepts;
}

accepts_each : (k : ℕ) (items : List ItemRecord) (c : ControllerState) → AcceptsAll (entries_from k items) c
    → AllByRecursion (λ r. Accepts (request_of r) c) items
unfolding entries_from
accepts_each k [] c accepts = tt
accepts_each k (r ∷ rs) c accepts = (accepts.0, accepts_each (suc k) rs c accepts.1)

-- slaves that take items and answer them have their inputs in the answers
inputs_of : (ss : List SlaveState) (k : ℕ) (items got : List ItemRecord) → TakesAll (controllers ss) k items
    → AreAnswers (by_station ss) items got → InputsStand ss items got
inputs_of ss k items got takes answers n s found =
    let fit = (by_station_each (λ (t : SlaveState). IsFitAlone t.controller) ss n s found
    (each-controller IsFitAlone ss takes.fit.alone)).0 in
    let accepts = (by_station_each (λ (t : SlaveState). AcceptsAll (entries_from k items) t.controller) ss n s
    found (each-controller (AcceptsAll (entries_from k items)) ss takes.accepts)).0 in
    inputs_now s.controller n items got (by_station ss) s fit (accepts_each k items s.controller accepts)
    (at_first (by_station ss) n s fit found) answers

-- what controllers that are alike made of the datagrams of items is what slaves with them answer
seen_answers : (ss : List SlaveState) (cs : List ControllerState) (k : ℕ) (items : List ItemRecord)
    (gs : List DatagramRecord) → AllAlike (controllers ss) cs → TakesAll (controllers ss) k items
    → AllByRecursion IsItem items → AnsweredFrame (entries_from k items) cs gs
    → AreAnswers (by_station (with_controllers ss cs)) items (with_answers items gs)
    × InputsStand (with_controllers ss cs) items (with_answers items gs)
seen_answers ss cs k items gs alike takes are answered =
    let zs : List SlaveState = with_controllers ss cs in
    let same : cs ≡ controllers zs = sym (controllers-with ss cs alike) in
    let now : TakesAll (controllers zs) k items =
    subst (λ (l : List ControllerState). TakesAll l k items) same
    (takes_alike (controllers ss) cs k items alike takes) in
    let answers : AreAnswers (by_station zs) items (with_answers items gs) =
    answers_over zs items k gs now.fit now.accepts are
    (subst (λ (l : List ControllerState). AnsweredFrame (entries_from k items) l gs) same answered) in
    (answers, inputs_of zs k items (with_answers items gs) now answers)

-- ---- items, frame by frame

-- entries that begin those of items are those of the first items, and what is left those of the others
record IsSplit (es rest : List Entry) (k : ℕ) (items : List ItemRecord) : Type 0 where
  front : es ≡ entries_from k (take (length es) items)
  number : ℕ
  back : rest ≡ entries_from number (drop (length es) items)

split-entries : (es rest : List Entry) (k : ℕ) (items : List ItemRecord) → es ++ rest ≡ entries_from k items
    → IsSplit es rest k items
unfolding entries_from
split-entries [] rest k items whole = record { front = refl; number = k; back = whole }
split-entries (e ∷ es) rest k [] whole = absurd (let no : e ∷ (es ++ rest) ≡ [] = whole in cc)
split-entries (e ∷ es) rest k (r ∷ rs) whole =
    let all : e ∷ (es ++ rest) ≡ entry_of r k ∷ entries_from (suc k) rs = whole in
    let first : e ≡ entry_of r k = cc in
    let more : es ++ rest ≡ entries_from (suc k) rs = cc in
    let behind = split-entries es rest (suc k) rs more in
    record {
      front = ap (λ (x : Entry). x ∷ es) first ∙ ap (λ (l : List Entry). entry_of r k ∷ l) behind.front;
      number = behind.number;
      back = behind.back;
    }

take-answers : (items : List ItemRecord) (gs hs : List DatagramRecord)
    → take (length gs) (with_answers items (gs ++ hs)) ≡ with_answers (take (length gs) items) gs
take-answers items [] hs = refl
take-answers [] (g ∷ gs) hs = refl
take-answers (r ∷ rs) (g ∷ gs) hs =
    ap (λ (l : List ItemRecord). with_answer r g ∷ l) (take-answers rs gs hs)

drop-answers : (items : List ItemRecord) (gs hs : List DatagramRecord)
    → drop (length gs) (with_answers items (gs ++ hs)) ≡ with_answers (drop (length gs) items) hs
drop-answers items [] hs = refl
drop-answers [] (g ∷ gs) hs = refl
drop-answers (r ∷ rs) (g ∷ gs) hs = drop-answers rs gs hs

size_answered : (es : List Entry) (xs : List ControllerState) (gs : List DatagramRecord)
    → AnsweredFrame es xs gs → length gs ≡ length es
size_answered [] xs [] answered = refl
size_answered [] xs (g ∷ gs) answered = absurd answered
size_answered (e ∷ es) xs [] answered = absurd answered
size_answered (e ∷ es) xs (g ∷ gs) answered = ap suc (size_answered es xs gs answered.1)

-- who accepts all entries accepts those in front, and those behind
accepts-parts : (es rest : List Entry) (line : List ControllerState)
    → AllByRecursion (AcceptsAll (es ++ rest)) line
    → AllByRecursion (AcceptsAll es) line × AllByRecursion (AcceptsAll rest) line
accepts-parts es rest line accepts = (
  each-map (AcceptsAll (es ++ rest)) (AcceptsAll es) line
      (λ c all. each-front (λ (e : Entry). Accepts e.request c) es rest all) accepts,
  each-map (AcceptsAll (es ++ rest)) (AcceptsAll rest) line
      (λ c all. each-back (λ (e : Entry). Accepts e.request c) es rest all) accepts,
)

-- what each frame's slaves made of their datagrams, each at its moment, are the answers of the items that it
-- carries
pub frames_at_moments : (ss : List SlaveState) (ts : List Trip) (runs : List (List Visit)) (k : ℕ)
    (items : List ItemRecord) (joined : List (List DatagramRecord)) → IsFitLine (controllers ss)
    → AllByRecursion (AcceptsAll (entries_from k items)) (controllers ss) → AllByRecursion IsItem items
    → concat (entries_of ts) ≡ entries_from k items → AnsweredAtMoments ts (controllers ss) runs joined
    → FramesAtMoments ss ts runs items (with_answers items (concat joined))
unfolding entries_from
frames_at_moments ss [] [] k [] [] fit accepts are whole answered = tt
frames_at_moments ss [] [] k (r ∷ rs) [] fit accepts are whole answered =
    absurd (let no : [] ≡ entry_of r k ∷ entries_from (suc k) rs = whole in cc)
frames_at_moments ss [] [] k items (g ∷ gs) fit accepts are whole answered = absurd answered
frames_at_moments ss [] (vs ∷ rest) k items joined fit accepts are whole answered = absurd answered
frames_at_moments ss (t ∷ ts) [] k items joined fit accepts are whole answered = absurd answered
frames_at_moments ss (t ∷ ts) (vs ∷ rest) k items [] fit accepts are whole answered = absurd answered
frames_at_moments ss (t ∷ ts) (vs ∷ rest) k items (g ∷ gs) fit accepts are whole answered =
    let line : List ControllerState = controllers ss in
    let es : List Entry = t.entries in
    let n : ℕ = length es in
    let cs : List ControllerState = seen (front_of t) vs in
    let answers : List ItemRecord = with_answers items (g ++ concat gs) in
    let split = split-entries es (concat (entries_of ts)) k items whole in
    let size : length g ≡ n = size_answered es cs g answered.0.answered in
    let parts = accepts-parts es (concat (entries_of ts)) line
    (subst (λ (l : List Entry). AllByRecursion (AcceptsAll l) line) (sym whole) accepts) in
    let takes : TakesAll line k (take n items) = record {
      fit = fit;
      accepts = subst (λ (l : List Entry). AllByRecursion (AcceptsAll l) line) split.front parts.0;
    } in
    let here = seen_answers ss cs k (take n items) g answered.0.alike takes (each-take IsItem n items are)
    (subst (λ (l : List Entry). AnsweredFrame l cs g) split.front answered.0.answered) in
    let first : IsFrameAtMoments ss t vs (take n items) (with_answers (take n items) g) = record {
      alike = answered.0.alike;
      answers = here.0;
      inputs = here.1;
      once = answered.0.once;
    } in
    let own : with_answers (take n items) g ≡ take n answers =
    subst (λ (m : ℕ). with_answers (take m items) g ≡ take m answers) size
    (sym (take-answers items g (concat gs))) in
    let others : with_answers (drop n items) (concat gs) ≡ drop n answers =
    subst (λ (m : ℕ). with_answers (drop m items) (concat gs) ≡ drop m answers) size
    (sym (drop-answers items g (concat gs))) in (
      subst (λ (l : List ItemRecord). IsFrameAtMoments ss t vs (take n items) l) own first,
      subst (λ (l : List ItemRecord). FramesAtMoments ss ts rest (drop n items) l) others
          (frames_at_moments ss ts rest split.number (drop n items) gs fit
          (subst (λ (l : List Entry). AllByRecursion (AcceptsAll l) line) split.back parts.1)
          (each-drop IsItem n items are) split.back answered.1),
    )
