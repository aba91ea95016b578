-- Lines one after the other.
use Rattle.std.proofs.Common.{◌≡◌, ◌<◌, ◌+◌, ℕ, List, ◌∷◌, Option, None, Some, Result, Ok, Err, refl, ap, sym}
use Rattle.std.proofs.Common.{◌∙◌, drop, get_or, length, subst}
use Rattle.std.specs.Prelude.{IfSome}
use Rattle.std.proofs.lemmas.List.{drop_more}
use Rattle.ecat_scene.specs.declared.fault.LineFault.{LineFault}
use Rattle.ecat_scene.specs.declared.fault.Stop.{Stop}
use Rattle.ecat_scene.specs.declared.fault.Stop.TheVariants.{Fault, NoMemory}
use Rattle.ecat_scene.specs.declared.reader.Reader.{Reader}
use Rattle.ecat_scene.specs.Deeds.{line_does, lines_do, then_does}
use Rattle.ecat_scene.specs.Order.{fault_of}
use Rattle.ecat_scene.specs.Read.{Did, ReadAs}
use Rattle.ecat_scene.specs.Scene.{scene_record, SceneRecord}
use Rattle.ecat_scene.specs.Words.{Stops}

-- what is left once a line was read
pub left : (lines : List (List ℕ)) (n : ℕ) (line : List ℕ) → (n < length lines) × (line ≡ get_or lines n line)
    → drop n lines ≡ line ∷ drop (n + 1) lines
left lines n line at = drop_more lines n line at.0 ∙ ap (λ l. l ∷ drop (n + 1) lines) (sym at.1)

-- a line that was read
turn-by : (before after : Reader) (rest : List (List ℕ)) (o : Option (Result SceneRecord LineFault))
    (does : Result SceneRecord LineFault) → IfSome o (Did before after (Ok tt))
    → then_does (lines_do rest) o ≡ Some does
    → (lines_do rest (scene_record after.scene) ≡ Some does) × (after.links.items ≡ before.links.items)
turn-by before after rest None does did h = cc h
turn-by before after rest (Some (Ok scene)) does did h =
    let same : scene ≡ scene_record after.scene = cc did.done in
    (subst (λ s. lines_do rest s ≡ Some does) same h, did.links)
turn-by before after rest (Some (Err fault)) does did h = cc did.done

pub turn : (before after : Reader) (line : List ℕ) (rest : List (List ℕ))
    (does : Result SceneRecord LineFault)
    → IfSome (line_does line (scene_record before.scene)) (Did before after (Ok tt))
    → lines_do (line ∷ rest) (scene_record before.scene) ≡ Some does
    → (lines_do rest (scene_record after.scene) ≡ Some does) × (after.links.items ≡ before.links.items)
turn before after line rest does did h =
    turn-by before after rest (line_does line (scene_record before.scene)) does did h

-- one that stops the reading
stop-at : (stop : Stop) (scene : SceneRecord) (does : Result SceneRecord LineFault) → Stops stop (Ok scene)
    → Stops stop does
stop-at (Fault fault) scene does h = cc h
stop-at NoMemory scene does h = tt

stop-by : (before after : Reader) (rest : List (List ℕ)) (o : Option (Result SceneRecord LineFault))
    (stop : Stop) (does : Result SceneRecord LineFault) → IfSome o (Did before after (Err stop))
    → then_does (lines_do rest) o ≡ Some does → Stops stop does
stop-by before after rest None stop does did h = cc h
stop-by before after rest (Some (Ok scene)) stop does did h = stop-at stop scene does did.done
stop-by before after rest (Some (Err fault)) stop does did h =
    let same : Err fault ≡ does = cc h in subst (Stops stop) same did.done

told : (n : ℕ) (stop : Stop) (does : Result SceneRecord LineFault) → Stops stop does
    → ReadAs (Err (fault_of n stop)) does
told n (Fault fault) does h = h
told n NoMemory does h = tt

pub stopped : (n : ℕ) (before after : Reader) (line : List ℕ) (rest : List (List ℕ)) (stop : Stop)
    (does : Result SceneRecord LineFault)
    → IfSome (line_does line (scene_record before.scene)) (Did before after (Err stop))
    → lines_do (line ∷ rest) (scene_record before.scene) ≡ Some does → ReadAs (Err (fault_of n stop)) does
stopped n before after line rest stop does did h =
    told n stop does (stop-by before after rest (line_does line (scene_record before.scene)) stop does did h)

-- what holds of whatever there is
pub if-some : {A : Type 0} (o : Option A) (P : A → Type 0) → ((x : A) → o ≡ Some x → P x) → IfSome o P
if-some None P h = tt
if-some (Some x) P h = h x refl

pub same-does : (does other : Result SceneRecord LineFault) → Some does ≡ Some other → other ≡ does
same-does does other h = cc h
