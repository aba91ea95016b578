-- The identities of the slaves of a line, one entry and one slave after the other.
use Rattle.std.proofs.Common.{◌≡◌, ◌≤◌, ◌<◌, ℕ, suc, ◌+◌, refl, sym, ap, ◌∙◌, subst, arith, Option, List}
use Rattle.std.proofs.Common.{[], ◌∷◌, length, drop, drop-cons, get_or, Result, Ok, Err}
use Rattle.std.proofs.lemmas.List.{drop_all}
use Rattle.ec_master.specs.Ports.{Trips}
use Rattle.ec_app.specs.declared.value.Value.{Value}
use Rattle.ec_run.specs.declared.wanted.Wanted.{Wanted}
use Rattle.ec_services.specs.declared.mailbox.Peer.{Peer}
use Rattle.ecat_master.specs.Identities.{AreEntriesCompared, AreIdentitiesCompared, IsEntryCompared}
use Rattle.ecat_master.specs.Identities.{IdentityEntry, IsIdentityCompared, WantedIdentity, next_entry}
use Rattle.ecat_master.specs.declared.identity.OtherSlave.{OtherSlave}

-- ---- lists that are gone through

-- what is left begins with the element at the place
pub left_is : {X : Type 0} (xs : List X) (k : ℕ) (d : X) → k < length xs
    → drop k xs ≡ get_or xs k d ∷ drop (k + 1) xs
left_is xs k d inside =
    drop-cons xs k d inside
    ∙ ap (λ (n : ℕ). get_or xs k d ∷ drop n xs) (let e : suc k ≡ k + 1 = omega arith in e)

-- and past the last place nothing is left
pub left_none : {X : Type 0} (xs : List X) (k : ℕ) → length xs ≤ k → drop k xs ≡ []
left_none xs k past = drop_all k xs past

-- ---- entries

-- what the entries that are left come to, from the ports and the peer as they are now, is what all come to
abbrev pub EntriesOn : {P : Type 0} → Trips P → P → P → Peer → Peer → IdentityEntry → IdentityEntry
    → WantedIdentity → WantedIdentity → Type 0
EntriesOn {P} trips start now peer peer_now first entry all left =
    (result : Result (Unit {0}) OtherSlave) (later : P)
    → AreEntriesCompared trips now entry peer_now left result later
    → AreEntriesCompared trips start first peer all result later

entry_then : {P : Type 0} (trips : Trips P) (now between later : P) (entry : IdentityEntry) (peer next : Peer)
    (wanted : Option Value) (rest : WantedIdentity) (result : Result (Unit {0}) OtherSlave)
    → IsEntryCompared trips now entry peer wanted (Ok tt) next between
    → AreEntriesCompared trips between (next_entry entry) next rest result later
    → AreEntriesCompared trips now entry peer (wanted ∷ rest) result later
unfolding AreEntriesCompared
entry_then trips now between later entry peer next wanted rest result one more =
    (Ok tt, next, between, one, more)

entry_ends : {P : Type 0} (trips : Trips P) (now between : P) (entry : IdentityEntry) (peer next : Peer)
    (wanted : Option Value) (rest : WantedIdentity) (other : OtherSlave)
    → IsEntryCompared trips now entry peer wanted (Err other) next between
    → AreEntriesCompared trips now entry peer (wanted ∷ rest) (Err other) between
unfolding AreEntriesCompared
entry_ends trips now between entry peer next wanted rest other one =
    (Err other, next, between, one, (refl, refl))

no_entry : {P : Type 0} (trips : Trips P) (now : P) (entry : IdentityEntry) (peer : Peer)
    → AreEntriesCompared trips now entry peer [] (Ok tt) now
unfolding AreEntriesCompared
no_entry trips now entry peer = (refl, refl)

-- an entry is as wanted, and what is left goes on behind it
pub entries_on : {P : Type 0} (trips : Trips P) (start now between : P) (peer peer_now next : Peer)
    (first entry : IdentityEntry) (wanted : Option Value) (all left rest : WantedIdentity)
    → EntriesOn trips start now peer peer_now first entry all left → left ≡ wanted ∷ rest
    → IsEntryCompared trips now entry peer_now wanted (Ok tt) next between
    → EntriesOn trips start between peer next first (next_entry entry) all rest
entries_on trips start now between peer peer_now next first entry wanted all left rest so_far is one result
    later more =
    so_far result later
    (subst (λ (ws : WantedIdentity). AreEntriesCompared trips now entry peer_now ws result later) (sym is)
    (entry_then trips now between later entry peer_now next wanted rest result one more))

-- an entry is another one, and that is the answer
pub entries_end : {P : Type 0} (trips : Trips P) (start now between : P) (peer peer_now next : Peer)
    (first entry : IdentityEntry) (wanted : Option Value) (all left rest : WantedIdentity)
    (other : OtherSlave) → EntriesOn trips start now peer peer_now first entry all left → left ≡ wanted ∷ rest
    → IsEntryCompared trips now entry peer_now wanted (Err other) next between
    → AreEntriesCompared trips start first peer all (Err other) between
entries_end trips start now between peer peer_now next first entry wanted all left rest other so_far is one =
    so_far (Err other) between
    (subst (λ (ws : WantedIdentity). AreEntriesCompared trips now entry peer_now ws (Err other) between)
    (sym is) (entry_ends trips now between entry peer_now next wanted rest other one))

-- no entry is left
pub entries_all : {P : Type 0} (trips : Trips P) (start now : P) (peer peer_now : Peer)
    (first entry : IdentityEntry) (all left : WantedIdentity)
    → EntriesOn trips start now peer peer_now first entry all left → left ≡ []
    → AreEntriesCompared trips start first peer all (Ok tt) now
entries_all trips start now peer peer_now first entry all left so_far is =
    so_far (Ok tt) now
    (subst (λ (ws : WantedIdentity). AreEntriesCompared trips now entry peer_now ws (Ok tt) now) (sym is)
    (no_entry trips now entry peer_now))

-- ---- slaves

-- what the slaves that are left come to, from the ports as they are now, is what all come to
abbrev pub SlavesOn : {P : Type 0} → Trips P → P → P → ℕ → ℕ → List Wanted → List Wanted
    → List WantedIdentity → List WantedIdentity → Type 0
SlavesOn {P} trips start now first place line line_left all left =
    (result : Result (Unit {0}) OtherSlave) (later : P)
    → AreIdentitiesCompared trips now place line_left left result later
    → AreIdentitiesCompared trips start first line all result later

slave_then : {P : Type 0} (trips : Trips P) (now between later : P) (place : ℕ) (wanted : Wanted)
    (others : List Wanted) (identity : WantedIdentity) (rest : List WantedIdentity)
    (result : Result (Unit {0}) OtherSlave)
    → IsIdentityCompared trips now place wanted identity (Ok tt) between
    → AreIdentitiesCompared trips between (place + 1) others rest result later
    → AreIdentitiesCompared trips now place (wanted ∷ others) (identity ∷ rest) result later
unfolding AreIdentitiesCompared
slave_then trips now between later place wanted others identity rest result one more =
    (Ok tt, between, one, more)

slave_ends : {P : Type 0} (trips : Trips P) (now between : P) (place : ℕ) (wanted : Wanted)
    (others : List Wanted) (identity : WantedIdentity) (rest : List WantedIdentity) (other : OtherSlave)
    → IsIdentityCompared trips now place wanted identity (Err other) between
    → AreIdentitiesCompared trips now place (wanted ∷ others) (identity ∷ rest) (Err other) between
unfolding AreIdentitiesCompared
slave_ends trips now between place wanted others identity rest other one =
    (Err other, between, one, (refl, refl))

no_slave : {P : Type 0} (trips : Trips P) (now : P) (place : ℕ) (identities : List WantedIdentity)
    → AreIdentitiesCompared trips now place [] identities (Ok tt) now
unfolding AreIdentitiesCompared
no_slave trips now place identities = (refl, refl)

none_wanted : {P : Type 0} (trips : Trips P) (now : P) (place : ℕ) (line : List Wanted)
    → AreIdentitiesCompared trips now place line [] (Ok tt) now
unfolding AreIdentitiesCompared
none_wanted trips now place [] = (refl, refl)
none_wanted trips now place (wanted ∷ rest) = (refl, refl)

-- a slave is the wanted one, and what is left goes on behind it
pub slaves_on : {P : Type 0} (trips : Trips P) (start now between : P) (first place : ℕ) (wanted : Wanted)
    (identity : WantedIdentity) (line line_left others : List Wanted) (all left rest : List WantedIdentity)
    → SlavesOn trips start now first place line line_left all left → line_left ≡ wanted ∷ others
    → left ≡ identity ∷ rest → IsIdentityCompared trips now place wanted identity (Ok tt) between
    → SlavesOn trips start between first (place + 1) line others all rest
slaves_on trips start now between first place wanted identity line line_left others all left rest so_far
    slave_is identity_is one result later more =
    so_far result later
    (subst (λ (ws : List Wanted). AreIdentitiesCompared trips now place ws left result later) (sym slave_is)
    (subst (λ (all_left : List WantedIdentity).
    AreIdentitiesCompared trips now place (wanted ∷ others) all_left result later) (sym identity_is)
    (slave_then trips now between later place wanted others identity rest result one more)))

-- a slave is another one, and that is the answer
pub slaves_end : {P : Type 0} (trips : Trips P) (start now between : P) (first place : ℕ) (wanted : Wanted)
    (identity : WantedIdentity) (line line_left others : List Wanted) (all left rest : List WantedIdentity)
    (other : OtherSlave)
    → SlavesOn trips start now first place line line_left all left → line_left ≡ wanted ∷ others
    → left ≡ identity ∷ rest → IsIdentityCompared trips now place wanted identity (Err other) between
    → AreIdentitiesCompared trips start first line all (Err other) between
slaves_end trips start now between first place wanted identity line line_left others all left rest other
    so_far slave_is identity_is one =
    so_far (Err other) between
    (subst (λ (ws : List Wanted). AreIdentitiesCompared trips now place ws left (Err other) between)
    (sym slave_is)
    (subst (λ (all_left : List WantedIdentity).
    AreIdentitiesCompared trips now place (wanted ∷ others) all_left (Err other) between) (sym identity_is)
    (slave_ends trips now between place wanted others identity rest other one)))

-- no slave is left
pub slaves_all : {P : Type 0} (trips : Trips P) (start now : P) (first place : ℕ)
    (line line_left : List Wanted) (all left : List WantedIdentity)
    → SlavesOn trips start now first place line line_left all left → line_left ≡ []
    → AreIdentitiesCompared trips start first line all (Ok tt) now
slaves_all trips start now first place line line_left all left so_far is =
    so_far (Ok tt) now
    (subst (λ (ws : List Wanted). AreIdentitiesCompared trips now place ws left (Ok tt) now) (sym is)
    (no_slave trips now place left))

-- of those that are left no identity is wanted
pub slaves_rest : {P : Type 0} (trips : Trips P) (start now : P) (first place : ℕ)
    (line line_left : List Wanted) (all left : List WantedIdentity)
    → SlavesOn trips start now first place line line_left all left → left ≡ []
    → AreIdentitiesCompared trips start first line all (Ok tt) now
slaves_rest trips start now first place line line_left all left so_far is =
    so_far (Ok tt) now
    (subst (λ (all_left : List WantedIdentity).
    AreIdentitiesCompared trips now place line_left all_left (Ok tt) now) (sym is)
    (none_wanted trips now place line_left))
