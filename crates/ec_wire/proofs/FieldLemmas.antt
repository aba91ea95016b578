-- A frame with one field of one datagram replaced, field by field.
use Rattle.std.proofs.Common.{◌≡◌, ℕ, ◌+◌, ◌-◌, ◌*◌, ◌/◌, ◌%◌, ◌<◌, ◌^◌, Bool, List, [], ◌∷◌, ◌++◌, length}
use Rattle.std.proofs.Common.{take, drop, set, refl, sym, ap, ◌∙◌, arith}
use Rattle.std.specs.Int.{w16, w32, to_le_bytes}
use Rattle.std.proofs.lemmas.List.{append_assoc, length-append}
use Rattle.std.proofs.lemmas.List.Elements.{All-get_or}
use Rattle.ec_wire.specs.Datagram.{DatagramRecord, nth, blank, Fits, code_of}
use Rattle.ec_wire.specs.Spelling.{datagram, head, bit_of, length_word}
use Rattle.ec_wire.specs.Frame.{start_of, Keeps}
use Rattle.ec_wire.proofs.SpellingLemmas.{more_behind}
use Rattle.ec_wire.proofs.FrameLemmas.{Keeps-field, data-part}
use Rattle.ec_wire.specs.Cells.{with_run}
use Rattle.ec_wire.specs.Lending.{with_data}
use Rattle.std.specs.List.{refill, length_refill}

-- a datagram round its working counter
counter-in : (more : Bool) (r : DatagramRecord) (n : ℕ)
    → datagram more (record r { counter = n }) ≡ (head more r ++ r.payload) ++ (to_le_bytes w16 n ++ [])
unfolding datagram
counter-in more r n = refl

-- the working counter of the datagram at an index is replaced
pub Keeps-counter : {cells cells' starts part : List ℕ} {size at n : ℕ} {rs : List DatagramRecord} (k : ℕ)
    → Keeps cells size starts rs → k < length rs → n < 2 ^ 16 → part ≡ to_le_bytes w16 n
    → at ≡ start_of rs k + 10 + length (nth rs k).payload
    → cells' ≡ take at cells ++ (part ++ drop (at + length part) cells)
    → Keeps cells' size starts (set rs k (record (nth rs k) { counter = n }))
Keeps-counter {cells} {cells'} {starts} {part} {size} {at} {n} {rs} k kept h small written place made =
    let r = nth rs k in
    let more = more_behind k rs in
    let f = All-get_or Fits rs k blank h kept.value.fits in
    let long : length (head more r ++ r.payload) ≡ 10 + length r.payload =
    length-append (head more r) r.payload in
    Keeps-field cells cells' size starts rs k (record r { counter = n }) (head more r ++ r.payload)
    (to_le_bytes w16 r.counter) part [] at kept h
    (record { index = f.index; address = f.address; irq = f.irq; payload = f.payload; counter = small }) refl
    (counter-in more r r.counter)
    (counter-in more r n ∙ ap (λ xs. (head more r ++ r.payload) ++ (xs ++ [])) (sym written))
    (ap length written) (omega arith) made

-- a datagram round the low half of its address
adp-in : (more : Bool) (r : DatagramRecord)
    → datagram more r ≡ (code_of r.command ∷ r.index ∷ [])
    ++ (to_le_bytes w16 r.address
    ++ (r.address / 65536 % 256 ∷ r.address / 16777216 % 256 ∷ drop 6 (datagram more r)))
unfolding datagram
adp-in more r = refl

-- the high half stays under another low half
adp_high : (adp address : ℕ) → adp < 2 ^ 16 → (adp + 65536 * (address / 65536)) / 65536 % 256
    ≡ address / 65536 % 256
adp_high adp address h = omega arith

adp_top : (adp address : ℕ) → adp < 2 ^ 16 → (adp + 65536 * (address / 65536)) / 16777216 % 256
    ≡ address / 16777216 % 256
adp_top adp address h = omega arith

adp_low : (adp address : ℕ) → to_le_bytes w16 (adp + 65536 * (address / 65536)) ≡ to_le_bytes w16 adp
adp_low adp address = two (omega arith) (omega arith)
  where
    two : {a b x y : ℕ} → a ≡ b → x ≡ y → a ∷ x ∷ [] ≡ b ∷ y ∷ []
    two e f = cc

-- the low half of the address of the datagram at an index is replaced
pub Keeps-adp : {cells cells' starts part : List ℕ} {size at adp : ℕ} {rs : List DatagramRecord} (k : ℕ)
    → Keeps cells size starts rs → k < length rs → adp < 2 ^ 16 → part ≡ to_le_bytes w16 adp
    → at ≡ start_of rs k + 2
    → cells' ≡ take at cells ++ (part ++ drop (at + length part) cells)
    → Keeps cells' size starts
    (set rs k (record (nth rs k) { address = adp + 65536 * ((nth rs k).address / 65536) }))
unfolding datagram
Keeps-adp {cells} {cells'} {starts} {part} {size} {at} {adp} {rs} k kept h small written place made =
    let r = nth rs k in
    let more = more_behind k rs in
    let f = All-get_or Fits rs k blank h kept.value.fits in
    let behind = r.address / 65536 % 256 ∷ r.address / 16777216 % 256 ∷ drop 6 (datagram more r) in
    let new = record r { address = adp + 65536 * (r.address / 65536) } in
    let tail : new.address / 65536 % 256 ∷ new.address / 16777216 % 256 ∷ drop 6 (datagram more r) ≡ behind =
    rw (adp_high adp r.address small, adp_top adp r.address small) refl in
    let fits_address = f.address in
    Keeps-field cells cells' size starts rs k new (code_of r.command ∷ r.index ∷ [])
    (to_le_bytes w16 r.address) part behind at kept h
    (record { index = f.index; address = omega arith; irq = f.irq; payload = f.payload; counter = f.counter })
    refl
    (adp-in more r)
    (adp-in more new
    ∙ ap (λ xs. (code_of r.command ∷ r.index ∷ []) ++ (to_le_bytes w16 new.address ++ xs)) tail
    ∙ ap (λ xs. (code_of r.command ∷ r.index ∷ []) ++ (xs ++ behind)) (adp_low adp r.address ∙ sym written))
    (ap length written) place made

index-in : (more : Bool) (r : DatagramRecord) (n : ℕ)
    → datagram more (record r { index = n }) ≡ (code_of r.command ∷ []) ++ ((n ∷ []) ++ drop 2 (datagram more r))
unfolding datagram
index-in more r n = refl

-- the index of the datagram at an index is replaced
pub Keeps-index : {cells cells' starts part : List ℕ} {size at n : ℕ} {rs : List DatagramRecord} (k : ℕ)
    → Keeps cells size starts rs → k < length rs → n < 2 ^ 8 → part ≡ n ∷ []
    → at ≡ start_of rs k + 1
    → cells' ≡ take at cells ++ (part ++ drop (at + length part) cells)
    → Keeps cells' size starts (set rs k (record (nth rs k) { index = n }))
unfolding datagram
Keeps-index {cells} {cells'} {starts} {part} {size} {at} {n} {rs} k kept h small written place made =
    let r = nth rs k in
    let more = more_behind k rs in
    let f = All-get_or Fits rs k blank h kept.value.fits in
    Keeps-field cells cells' size starts rs k (record r { index = n }) (code_of r.command ∷ [])
    (r.index ∷ []) part (drop 2 (datagram more r)) at kept h
    (record { index = small; address = f.address; irq = f.irq; payload = f.payload; counter = f.counter })
    refl
    (index-in more r r.index)
    (index-in more r n ∙ ap (λ xs. (code_of r.command ∷ []) ++ (xs ++ drop 2 (datagram more r))) (sym written))
    (ap length written) place made

irq-in : (more : Bool) (r : DatagramRecord) (n : ℕ)
    → datagram more (record r { irq = n }) ≡ take 8 (datagram more r)
    ++ (to_le_bytes w16 n ++ drop 10 (datagram more r))
unfolding datagram
irq-in more r n = refl

-- the event requests of the datagram at an index are replaced
pub Keeps-irq : {cells cells' starts part : List ℕ} {size at n : ℕ} {rs : List DatagramRecord} (k : ℕ)
    → Keeps cells size starts rs → k < length rs → n < 2 ^ 16 → part ≡ to_le_bytes w16 n
    → at ≡ start_of rs k + 8
    → cells' ≡ take at cells ++ (part ++ drop (at + length part) cells)
    → Keeps cells' size starts (set rs k (record (nth rs k) { irq = n }))
unfolding datagram
Keeps-irq {cells} {cells'} {starts} {part} {size} {at} {n} {rs} k kept h small written place made =
    let r = nth rs k in
    let more = more_behind k rs in
    let f = All-get_or Fits rs k blank h kept.value.fits in
    Keeps-field cells cells' size starts rs k (record r { irq = n }) (take 8 (datagram more r))
    (to_le_bytes w16 r.irq) part (drop 10 (datagram more r)) at kept h
    (record { index = f.index; address = f.address; irq = small; payload = f.payload; counter = f.counter })
    refl
    (irq-in more r r.irq)
    (irq-in more r n ∙ ap (λ xs. take 8 (datagram more r) ++ (xs ++ drop 10 (datagram more r))) (sym written))
    (ap length written) place made

field-in : (more c : Bool) (r : DatagramRecord) → datagram more (record r { circulating = c })
    ≡ take 6 (datagram more r)
    ++ (to_le_bytes w16 (length_word more (record r { circulating = c })) ++ drop 8 (datagram more r))
unfolding datagram
field-in more c r = refl

-- the circulating bit of the datagram at an index is replaced
pub Keeps-circulating : {cells cells' starts part : List ℕ} {size at : ℕ} {rs : List DatagramRecord} (k : ℕ)
    (c : Bool) → Keeps cells size starts rs → k < length rs
    → part ≡ to_le_bytes w16 (length_word (more_behind k rs) (record (nth rs k) { circulating = c }))
    → at ≡ start_of rs k + 6
    → cells' ≡ take at cells ++ (part ++ drop (at + length part) cells)
    → Keeps cells' size starts (set rs k (record (nth rs k) { circulating = c }))
unfolding datagram
Keeps-circulating {cells} {cells'} {starts} {part} {size} {at} {rs} k c kept h written place made =
    let r = nth rs k in
    let more = more_behind k rs in
    let f = All-get_or Fits rs k blank h kept.value.fits in
    Keeps-field cells cells' size starts rs k (record r { circulating = c }) (take 6 (datagram more r))
    (to_le_bytes w16 (length_word more r)) part (drop 8 (datagram more r)) at kept h
    (record { index = f.index; address = f.address; irq = f.irq; payload = f.payload; counter = f.counter })
    refl
    (field-in more r.circulating r)
    (field-in more c r
    ∙ ap (λ xs. take 6 (datagram more r) ++ (xs ++ drop 8 (datagram more r))) (sym written))
    (ap length written) place made

-- the data of the datagram at an index are replaced by as many
pub Keeps-payload : {cells cells' starts : List ℕ} {size at : ℕ} {rs : List DatagramRecord} (k : ℕ)
    (new : List ℕ) → Keeps cells size starts rs → k < length rs → length new ≡ length (nth rs k).payload
    → at ≡ start_of rs k + 10
    → cells' ≡ take at cells ++ (new ++ drop (at + length new) cells)
    → Keeps cells' size starts (set rs k (record (nth rs k) { payload = new }))
unfolding datagram
Keeps-payload {cells} {cells'} {starts} {size} {at} {rs} k new kept h same place made =
    let r = nth rs k in
    let more = more_behind k rs in
    let f = All-get_or Fits rs k blank h kept.value.fits in
    let word : head more (record r { payload = new }) ≡ head more r =
    ap (λ n. code_of r.command ∷ r.index
    ∷ (to_le_bytes w32 r.address ++ to_le_bytes w16 (n + 16384 * bit_of r.circulating + 32768 * bit_of more)
    ++ to_le_bytes w16 r.irq)) same in
    Keeps-field cells cells' size starts rs k (record r { payload = new }) (head more r) r.payload new
    (to_le_bytes w16 r.counter) at kept h
    (record {
      index = f.index;
      address = f.address;
      irq = f.irq;
      payload = rw same f.payload;
      counter = f.counter;
    }) same
    (append_assoc (head more r) r.payload (to_le_bytes w16 r.counter))
    (ap (λ xs. (xs ++ new) ++ to_le_bytes w16 r.counter) word
    ∙ append_assoc (head more r) new (to_le_bytes w16 r.counter)) same place made

-- the data of the datagram at an index are left as anything by who borrowed them
pub Keeps-run : {cells starts : List ℕ} {size at end : ℕ} {rs : List DatagramRecord} (k : ℕ) (w : List ℕ)
    → Keeps cells size starts rs → k < length rs → at ≡ start_of rs k + 10
    → end ≡ at + length (nth rs k).payload
    → Keeps (with_run cells at end w) size starts (with_data rs k w)
Keeps-run {cells} {starts} {size} {at} {end} {rs} k w kept h place till =
    let r = nth rs k in
    let n = length r.payload in
    let part : take (end - at) (drop at cells) ≡ r.payload =
    data-part cells size starts rs k at end kept h place till in
    let count : end - at ≡ n = omega arith in
    let new = refill n r.payload w in
    let long : length new ≡ n = sym (length_refill n r.payload w refl) in
    let same : refill (end - at) (take (end - at) (drop at cells)) w ≡ new =
    ap (λ xs. refill (end - at) xs w) part ∙ ap (λ m. refill m r.payload w) count in
    let stop : end ≡ at + length new = till ∙ ap (λ m. at + m) (sym long) in
    Keeps-payload k new kept h long place (ap (λ xs. take at cells ++ (xs ++ drop end cells)) same
    ∙ ap (λ m. take at cells ++ (new ++ drop m cells)) stop)
