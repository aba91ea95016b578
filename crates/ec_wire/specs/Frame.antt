-- How a frame is kept in place: its bytes at the front of 1,500 cells, and beside them where each
-- datagram begins.
use Rattle.std.specs.Prelude.{◌≡◌, ℕ, ◌+◌, List, [], ◌∷◌, length, take, drop, map}
use Rattle.ec_wire.specs.Datagram.{DatagramRecord, datagram_length}
use Rattle.ec_wire.specs.Decoding.{record_at}
use Rattle.ec_wire.specs.Spelling.{spelling, body_length, IsFrameValue}

-- where each datagram begins, the first at `from`
abbrev pub starts_from : ℕ → List DatagramRecord → List ℕ
starts_from from [] = []
starts_from from (r ∷ rs) = from ∷ starts_from (from + datagram_length r) rs

-- the records of the datagrams that begin at these places
unfoldable pub records_at : List ℕ → List ℕ → List DatagramRecord
records_at cells starts = map (λ start. record_at (drop start cells)) starts

-- The cells begin with the spelling of these records, and the starts are theirs.
pub record Keeps (cells : List ℕ) (size : ℕ) (starts : List ℕ) (rs : List DatagramRecord) : Type 0 where
  pub value : IsFrameValue rs
  pub bytes : take size cells ≡ spelling rs
  pub starts_are : starts ≡ starts_from 2 rs
  pub size_is : size ≡ 2 + body_length rs
  pub cells_are : length cells ≡ 1500

-- where the datagram at an index begins
abbrev pub start_of : List DatagramRecord → ℕ → ℕ
start_of rs k = 2 + body_length (take k rs)
