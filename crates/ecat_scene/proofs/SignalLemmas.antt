-- What lines that are written leave of the signals of a scene, and what is judged when all lines stand.
use Rattle.std.proofs.Common.{◌≡◌, ℕ, List, [], ◌∷◌, Result, Ok, Err, refl, ap}
use Rattle.std.proofs.Common.{◌&&◌, ◌||◌, ◌++◌, ◌<◌, ◌∙◌, arith, false, length, map, nat_lt, subst, suc}
use Rattle.std.proofs.Common.{sym, true, Bool}
use Rattle.std.proofs.lemmas.Bool.Decides.{nat_tests}
use Rattle.std.proofs.lemmas.List.{map-append}
use Rattle.std.specs.List.{list_all, list_any}
use Rattle.ec_map.specs.Item.{ItemRecord}
use Rattle.ecat_signals.specs.declared.field.Signal.{Signal}
use Rattle.ecat_scene.specs.declared.fault.LineFault.{LineFault}
use Rattle.ecat_scene.specs.declared.fault.SceneFault.{SceneFault}
use Rattle.ecat_scene.specs.declared.fault.SceneFault.TheVariants.{Line, NoMemory, TooLong}
use Rattle.ecat_scene.specs.declared.scene.Scene.{Scene}
use Rattle.ecat_scene.specs.declared.written.SceneLine.{SceneLine}
use Rattle.ecat_scene.specs.declared.written.SceneLine.TheVariants.{Slave, State, Simple, Areas, SyncMan}
use Rattle.ecat_scene.specs.declared.written.SceneLine.TheVariants.{Fmmu as FmmuLine, Load, Object, Startup}
use Rattle.ecat_scene.specs.declared.written.SceneLine.TheVariants.{Item}
use Rattle.ecat_scene.specs.declared.fault.LineFault.TheVariants.{Twin}
use Rattle.ecat_scene.specs.declared.scene.TheConstants.{MAX_ITEMS, MAX_SIGNALS}
use Rattle.ecat_scene.specs.Deeds.{in_scene, with_item, with_room}
use Rattle.ecat_scene.specs.Meant.{with_line, with_lines, WrittenLine}
use Rattle.ecat_scene.specs.Read.{ReadAs}
use Rattle.ecat_scene.specs.Scene.{SceneRecord, signal_record, SlaveRecord}
use Rattle.ecat_scene.specs.Signals.{has_item, has_name, judged, with_signal}
use Rattle.ecat_scene.specs.Words.{item_in, ◌>>=◌}

-- a scene without signals, if it is one
abbrev pub NoSignals : Result SceneRecord LineFault → Type 0
NoSignals (Ok scene) = scene.signals ≡ []
NoSignals (Err fault) = Unit {0}

-- other slaves, and one item more, are no signals
none-in : (scene : SceneRecord) (slaves : Result (List SlaveRecord) LineFault) → scene.signals ≡ []
    → NoSignals (in_scene scene slaves)
none-in scene (Ok slaves) none = none
none-in scene (Err fault) none = tt

none-by : (scene : SceneRecord) (items : Result (List ItemRecord) LineFault) → scene.signals ≡ []
    → NoSignals (items >>= λ is. Ok (record scene { items = is }))
none-by scene (Ok items) none = none
none-by scene (Err fault) none = tt

none-with : (scene : SceneRecord) (item : Result ItemRecord LineFault) → scene.signals ≡ []
    → NoSignals (item >>= λ i. with_item i scene)
none-with scene (Ok item) none = none-by scene (with_room MAX_ITEMS scene.items item) none
none-with scene (Err fault) none = tt

-- no line that is written is one of a signal
none-line : (line : SceneLine) (row : List ℕ) (scene : SceneRecord) → scene.signals ≡ []
    → NoSignals (with_line line row scene)
none-line (Slave s) row scene none = none-in scene _ none
none-line (State s) row scene none = none-in scene _ none
none-line Simple row scene none = none-in scene _ none
none-line (Areas o i) row scene none = none-in scene _ none
none-line (SyncMan n s l k) row scene none = none-in scene _ none
none-line (FmmuLine n lo le f la p b t) row scene none = none-in scene _ none
none-line (Load a) row scene none = none-in scene _ none
none-line (Object i s r v) row scene none = none-in scene _ none
none-line (Startup i s) row scene none = none-in scene _ none
none-line (Item k a) row scene none = none-with scene (item_in k a row) none

none-then : (read : Result SceneRecord LineFault) (ws : List WrittenLine) → NoSignals read
    → ((scene : SceneRecord) → scene.signals ≡ [] → NoSignals (with_lines ws scene))
    → NoSignals (read >>= with_lines ws)
none-then (Ok scene) ws none more = more scene none
none-then (Err fault) ws none more = tt

none-lines : (ws : List WrittenLine) (scene : SceneRecord) → scene.signals ≡ []
    → NoSignals (with_lines ws scene)
none-lines [] scene none = none
none-lines (w ∷ ws) scene none =
    none-then (with_line w.line w.row scene) ws (none-line w.line w.row scene none) (none-lines ws)

-- nothing is judged of a scene without signals
judged-none : (read : Result SceneRecord LineFault) → NoSignals read → judged read ≡ read
judged-none (Ok scene) none = rw none refl
judged-none (Err fault) none = refl

pub judged-written : (ws : List WrittenLine) (scene : SceneRecord) → scene.signals ≡ []
    → judged (with_lines ws scene) ≡ with_lines ws scene
judged-written ws scene none = judged-none (with_lines ws scene) (none-lines ws scene none)

-- a line that stops the reading is told before anything is judged
pub judged-stopped : (fault : SceneFault) (does : Result SceneRecord LineFault) → ReadAs (Err fault) does
    → ReadAs (Err fault) (judged does)
judged-stopped TooLong does h = h
judged-stopped (Line line fault) does h = ap judged h
judged-stopped NoMemory does h = tt

-- what all lines make is judged
pub judged-all : (scene : SceneRecord) (does : Result SceneRecord LineFault)
    (result : Result Scene SceneFault) → does ≡ Ok scene → ReadAs result (judged (Ok scene)) → ReadAs result (judged does)
judged-all scene does result is h = subst (λ d. ReadAs result (judged d)) (sym is) h

-- ---- signals by their records

pub any-mapped : (name : List ℕ) (xs : List Signal) → list_any (has_name name) (map signal_record xs)
    ≡ list_any (λ (s : Signal). has_name name (signal_record s)) xs
any-mapped name [] = refl
any-mapped name (x ∷ xs) = ap (λ b. has_name name (signal_record x) || b) (any-mapped name xs)

pub all-mapped : (items : List ItemRecord) (xs : List Signal)
    → list_all (has_item items) (map signal_record xs)
    ≡ list_all (λ (s : Signal). has_item items (signal_record s)) xs
all-mapped items [] = refl
all-mapped items (x ∷ xs) = ap (λ b. has_item items (signal_record x) && b) (all-mapped items xs)

pub ruleset signals = (any-mapped, all-mapped)

-- ---- one signal more

mapped-size : (xs : List Signal) → length (map signal_record xs) ≡ length xs
mapped-size [] = refl
mapped-size (x ∷ xs) = ap suc (mapped-size xs)

pub has-room : (xs : List Signal) → length xs < MAX_SIGNALS
    → nat_lt (length (map signal_record xs)) MAX_SIGNALS ≡ true
has-room xs room = let same = mapped-size xs in grind (arith, nat_tests)

named-so : (signal : Signal) (xs seen : List Signal) (name : List ℕ) (is : Bool) → name ≡ signal.name.items
    → seen ≡ xs → list_any (λ (s : Signal). has_name name (signal_record s)) seen ≡ is
    → list_any (has_name signal.name.items) (map signal_record xs) ≡ is
named-so signal xs seen name is same all h =
    any-mapped signal.name.items xs
    ∙ ap (λ n. list_any (λ (s : Signal). has_name n (signal_record s)) xs) (sym same)
    ∙ ap (list_any (λ (s : Signal). has_name name (signal_record s))) (sym all) ∙ h

-- where one has its name
pub twin : (signal : Signal) (xs seen : List Signal) (scene : SceneRecord) (name : List ℕ)
    → length xs < MAX_SIGNALS → name ≡ signal.name.items → seen ≡ xs
    → list_any (λ (s : Signal). has_name name (signal_record s)) seen ≡ true
    → with_signal (signal_record signal) (record scene { signals = map signal_record xs }) ≡ Err Twin
twin signal xs seen scene name room same all is =
    let free = has-room xs room in
    let any = named-so signal xs seen name true same all is in rw (free, any) refl

-- where none has
pub added : (signal : Signal) (xs seen ys : List Signal) (scene : SceneRecord) (name : List ℕ)
    → length xs < MAX_SIGNALS → name ≡ signal.name.items → seen ≡ xs
    → list_any (λ (s : Signal). has_name name (signal_record s)) seen ≡ false
    → ys ≡ xs ++ signal ∷ []
    → with_signal (signal_record signal) (record scene { signals = map signal_record xs })
    ≡ Ok (record scene { signals = map signal_record ys })
added signal xs seen ys scene name room same all is more =
    let free = has-room xs room in
    let any = named-so signal xs seen name false same all is in
    let back : map signal_record xs ++ signal_record signal ∷ [] ≡ map signal_record ys =
    sym (ap (map signal_record) more ∙ map-append signal_record xs (signal ∷ [])) in
    rw (free, any) (ap (λ ss. Ok (record scene { signals = ss })) back)
