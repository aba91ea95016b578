-- What crates above cite of whole captures: how a classic one is made up.
use Rattle.std.proofs.Common.{◌≡◌, List, [], ◌∷◌, ◌++◌, ℕ, refl}
use Rattle.ecat_capture.specs.Classic.{IsHeader, IsRecord, record_of}
use Rattle.ecat_capture.specs.File.{Stored, stored, AreRecords, IsCapture}
use Rattle.ecat_capture.specs.File.Holds.{ends, goes_on}
use Rattle.ecat_capture.specs.declared.classic.Format.{Format}
use Rattle.ecat_capture.specs.declared.capture.Piece.TheVariants as piece

-- no bytes are no records
pub records-none : (format : Format) → AreRecords format [] []
records-none format = ends tt refl refl

-- a record in front of others gives its packet in front of theirs
pub records-more : (format : Format) (front rest : List ℕ) (packets : List Stored)
    → IsRecord format front (record_of format front) → AreRecords format rest packets
    → AreRecords format (front ++ rest) (stored (record_of format front) front ∷ packets)
records-more format front rest packets is are =
    goes_on (piece.Record (record_of format front)) front rest packets is refl refl are

-- a header in front of records makes a capture with their packets
pub capture-of_records : (format : Format) (header rest : List ℕ) (packets : List Stored)
    → IsHeader format header → AreRecords format rest packets → IsCapture (header ++ rest) packets
capture-of_records format header rest packets is are =
    goes_on (piece.Header format) header rest packets is refl refl are
