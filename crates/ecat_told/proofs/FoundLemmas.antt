-- The line that is kept is so of the line that the last logical datagram found that moved.
use Rattle.std.proofs.Common.{◌≡◌, ◌⊎◌, ℕ, Bool, true, false, List, [], ◌∷◌, ◌&&◌, if◌then◌else◌, length}
use Rattle.std.proofs.Common.{refl, sym, ◌∙◌, ⊎_elim, inl, inr, subst}
use Rattle.std.specs.Option.{is_some}
use Rattle.std.specs.List.{AllByRecursion}
use Rattle.std.proofs.Math.Bool.{and-false}
use Rattle.std.proofs.lemmas.Bool.{and_parts, cases_Bool}
use Rattle.ec_regs.proofs.Laws.{each-map}
use Rattle.ec_wire.specs.Datagram.{DatagramRecord}
use Rattle.ec_wire.specs.declared.command.Command.{Command}
use Rattle.ec_wire.specs.declared.command.Command.TheVariants.{Aprd, Lrd, Lwr, Lrw}
use Rattle.ec_wire.specs.declared.command.Command.TheVariants.{Nop, Apwr, Aprw, Fprd, Fpwr, Fprw, Brd}
use Rattle.ec_wire.specs.declared.command.Command.TheVariants.{Bwr, Brw, Armw, Frmw}
use Rattle.ec_esc.specs.State.{ControllerState, IsController}
use Rattle.ec_line.specs.Trip.{front_pass}
use Rattle.ecat_trips.specs.declared.trip.Trip.{Trip}
use Rattle.ecat_told.specs.Known.{KnownState, by_came, came_whole, frame_lost, frame_returned}
use Rattle.ecat_told.specs.Known.{is_logical, is_place_read, is_place_write, lost, lost_over, may_be_two}
use Rattle.ecat_told.specs.Known.{moves_logical, returned, returned_over, slaves_after, starts_up}
use Rattle.ecat_told.specs.Known.{trip_after, unplaced}
use Rattle.ecat_told.specs.declared.slave.Slave.{Slave}
use Rattle.ecat_told.specs.So.{IsSo}
use Rattle.ecat_told.specs.Journeys.{AreFit, AreJourneys, IsBack, IsJourney, IsLine, IsLost, IsSent, Journey}
use Rattle.ecat_told.specs.Journeys.{found, found_in, found_on, told_of}
use Rattle.ecat_told.proofs.JourneyLemmas.{IsKeptLine, came_by, fit_on, found_by, frame_left, kept_line}
use Rattle.ecat_told.proofs.JourneyLemmas.{kept_so, line_left, one_line, place_read, rest_frame, returned_one}
use Rattle.ecat_told.proofs.JourneyLemmas.{size_left, trip_so, unmoved_over}
use Rattle.ecat_told.proofs.LineLemmas.{left_by}
use Rattle.ecat_told.proofs.PassLemmas.{HasMemory, controller_memory}

-- ---- one datagram

-- a logical one tells nothing of the slaves
logical_tells : (starts all : Bool) (d c : DatagramRecord) (ss : List Slave) → is_logical d.command ≡ true
    → slaves_after starts all d c ss ≡ ss
logical_tells starts all d c ss logical = by_command d.command refl logical
  where
    by_command : (x : Command) → d.command ≡ x → is_logical x ≡ true → slaves_after starts all d c ss ≡ ss
    by_command Lrd is told = rw is (rw (and-false all) refl)
    by_command Lwr is told = rw is (rw (and-false all) refl)
    by_command Lrw is told = rw is (rw (and-false all) refl)
    by_command Nop is told = absurd (cc)
    by_command Aprd is told = absurd (cc)
    by_command Apwr is told = absurd (cc)
    by_command Aprw is told = absurd (cc)
    by_command Fprd is told = absurd (cc)
    by_command Fpwr is told = absurd (cc)
    by_command Fprw is told = absurd (cc)
    by_command Brd is told = absurd (cc)
    by_command Bwr is told = absurd (cc)
    by_command Brw is told = absurd (cc)
    by_command Armw is told = absurd (cc)
    by_command Frmw is told = absurd (cc)

-- one that moved and is logical keeps the slaves, and any other keeps the line that was kept
line_returned : (all : Bool) (d c : DatagramRecord) (k : KnownState)
    → (returned all d c k).line ≡ (if moves_logical d c then k.slaves else k.line)
unfolding returned
line_returned all d c k =
    ⊎_elim
    (λ (moves : moves_logical d c ≡ true).
    rw moves (logical_tells (starts_up k.ready d c) all d c k.slaves
    (and_parts (is_logical d.command) _ moves).0))
    (λ (still : moves_logical d c ≡ false). rw still refl)
    (cases_Bool (moves_logical d c))

line_unplaced : (two : Bool) (d : DatagramRecord) (k : KnownState) → (unplaced two d k).line ≡ k.line
unfolding unplaced
line_unplaced two d k =
    ⊎_elim (λ (place : (two && is_place_write d.command) ≡ true). rw place refl)
    (λ (other : (two && is_place_write d.command) ≡ false). rw other refl)
    (cases_Bool (two && is_place_write d.command))

-- a read by place is not logical
place_still : (d c : DatagramRecord) → d.command ≡ Aprd → moves_logical d c ≡ false
place_still d c is = rw is refl

line_over : (broken all : Bool) (d c : DatagramRecord) (k : KnownState)
    → (returned_over broken all d c k).line ≡ (if moves_logical d c then k.slaves else k.line)
line_over broken all d c k =
    let two : Bool = may_be_two broken all (length k.slaves) d c in
    ⊎_elim
    (λ (read : (two && is_place_read d.command) ≡ true).
    let still : moves_logical d c ≡ false =
    place_still d c (place_read d.command (and_parts two (is_place_read d.command) read).1) in
    rw read (rw still refl))
    (λ (other : (two && is_place_read d.command) ≡ false).
    rw other (line_unplaced two d (returned all d c k) ∙ line_returned all d c k))
    (cases_Bool (two && is_place_read d.command))

-- so the line that is kept is so of the one that was found
line_so : (states broken all : Bool) (cs last : List ControllerState) (d c : DatagramRecord) (k : KnownState)
    → IsSo states k.slaves cs → IsSo states k.line last
    → IsSo states (returned_over broken all d c k).line (if moves_logical d c then cs else last)
line_so states broken all cs last d c k so kept =
    subst (λ ss. IsSo states ss (if moves_logical d c then cs else last)) (sym (line_over broken all d c k))
    (⊎_elim (λ (moves : moves_logical d c ≡ true). rw moves so)
    (λ (still : moves_logical d c ≡ false). rw still kept)
    (cases_Bool (moves_logical d c)))

-- ---- a frame that came back

back_found : (states broken all : Bool) (n : ℕ) (frame : List DatagramRecord)
    (cs last : List ControllerState) (k : KnownState)
    → n ≡ length cs → IsKeptLine cs → AllByRecursion IsSent frame → AreFit n cs frame
    → IsSo states k.slaves cs → IsSo states k.line last
    → IsSo states (frame_returned broken all frame (front_pass n cs frame).frame k).line
    (found_in n cs frame (front_pass n cs frame).frame last)
back_found states broken all n [] cs last k each line sent fit so kept = kept
back_found states broken all n (d ∷ ds) cs last k each line sent fit so kept =
    let c : DatagramRecord = came_by n cs d in
    let later : KnownState = returned_over broken all d c k in
    let now : List ControllerState = if moves_logical d c then cs else last in
    subst (λ es. IsSo states (frame_returned broken all (d ∷ ds) es k).line (found_in n cs (d ∷ ds) es last))
    (sym (rest_frame n cs d ds))
    (subst (λ es. IsSo states
    (frame_returned broken all ds (front_pass n (left_by n cs d) ds).frame later).line
    (found_in n es ds (front_pass n (left_by n cs d) ds).frame now))
    (sym (one_line n cs d))
    (back_found states broken all n ds (left_by n cs d) now later (each ∙ sym (size_left n cs d))
    (line_left n cs d sent.0.bytes line) sent.1 (fit_on n cs d ds fit.1)
    (returned_one states broken all n cs d k each line sent.0 fit.0 so)
    (line_so states broken all cs last d c k so kept)))

-- ---- a frame of which a copy alone came back, unprocessed

unmoved_found : (states broken : Bool) (n : ℕ) (frame : List DatagramRecord) (cs last : List ControllerState)
    (k : KnownState) → IsKeptLine cs → AllByRecursion IsSent frame → AreFit n cs frame
    → IsSo states k.slaves cs → IsSo states k.line last
    → IsSo states (frame_returned broken false frame frame k).line (found_in n cs frame frame last)
unmoved_found states broken n [] cs last k line sent fit so kept = kept
unmoved_found states broken n (d ∷ ds) cs last k line sent fit so kept =
    let later : KnownState = returned_over broken false d d k in
    let now : List ControllerState = if moves_logical d d then cs else last in
    subst (λ es. IsSo states (frame_returned broken false ds ds later).line (found_in n es ds ds now))
    (sym (one_line n cs d))
    (unmoved_found states broken n ds (left_by n cs d) now later (line_left n cs d sent.0.bytes line)
    sent.1 (fit_on n cs d ds fit.1)
    (unmoved_over states broken n cs d k sent.0 (found_by cs d line sent.0 fit.0) so)
    (line_so states broken false cs last d d k so kept))

-- ---- a frame that was lost

line_lost : (two : Bool) (frame : List DatagramRecord) (k : KnownState)
    → (frame_lost two frame k).line ≡ k.line
unfolding lost
line_lost two [] k = refl
line_lost two (d ∷ ds) k = line_lost two ds (lost_over two d k) ∙ line_unplaced two d (lost d k)

-- ---- journeys

trip_found : (states : Bool) (n : ℕ) (t : Trip) (cs last : List ControllerState) (k : KnownState)
    → IsBack n t cs ⊎ IsLost t → IsKeptLine cs → AllByRecursion IsSent t.sent.frame
    → AreFit n cs t.sent.frame → IsSo states k.slaves cs → IsSo states k.line last
    → IsSo states (trip_after t k).line (found_on n t t.came cs last)
unfolding trip_after
trip_found states n t cs last k (inl (each, back)) line sent fit so kept =
    subst (λ o. IsSo states (by_came t o k).line (found_on n t o cs last)) (sym back)
    (back_found states t.is_open (came_whole t) n t.sent.frame cs last k each line sent fit so kept)
trip_found states n t cs last k (inr (inl gone)) line sent fit so kept =
    subst (λ o. IsSo states (by_came t o k).line (found_on n t o cs last)) (sym gone)
    (subst (λ ss. IsSo states ss last) (sym (line_lost (is_some t.second) t.sent.frame k)) kept)
trip_found states n t cs last k (inr (inr (alone, other))) line sent fit so kept =
    subst (λ o. IsSo states (by_came t o k).line (found_on n t o cs last)) (sym other)
    (subst (λ b. IsSo states (frame_returned t.is_open b t.sent.frame t.sent.frame k).line
    (found_in n cs t.sent.frame t.sent.frame last)) (sym alone)
    (unmoved_found states t.is_open n t.sent.frame cs last k line sent fit so kept))

all_found : (states : Bool) (js : List Journey) (cs last : List ControllerState) (k : KnownState)
    → IsKeptLine cs → AreJourneys states js cs → IsSo states k.slaves cs → IsSo states k.line last
    → IsSo states (told_of js k).line (found js cs last)
all_found states [] cs last k line journeys so kept = kept
all_found states (j ∷ js) cs last k line journeys so kept =
    let is : IsJourney states j cs = journeys.0 in
    let left_line : IsKeptLine (front_pass j.passed cs j.trip.sent.frame).line =
    frame_left j.passed j.trip.sent.frame cs line is.sent in
    all_found states js j.later (found_on j.passed j.trip j.trip.came cs last) (trip_after j.trip k)
    (kept_line states (front_pass j.passed cs j.trip.sent.frame).line j.later is.kept left_line.few)
    journeys.1
    (kept_so states (trip_after j.trip k).slaves
    (front_pass j.passed cs j.trip.sent.frame).line j.later is.kept
    (trip_so states j.passed j.trip cs k is.came line is.sent is.fit so))
    (trip_found states j.passed j.trip cs last k is.came line is.sent is.fit so kept)

-- the line that is kept is so of the one that was found last
pub line_found : (states : Bool) (js : List Journey) (line last : List ControllerState) (k : KnownState)
    → IsLine line → IsSo states k.slaves line → IsSo states k.line last → AreJourneys states js line
    → IsSo states (told_of js k).line (found js line last)
line_found states js line last k is so kept journeys =
    all_found states js line last k (record {
      memories = each-map IsController HasMemory line controller_memory is.controllers;
      names = is.states;
      few = is.few;
    }) journeys so kept
