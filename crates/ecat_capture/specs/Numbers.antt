-- Numbers in the bytes of a capture, in the order that the file or section has.
use Rattle.std.specs.Prelude.{ℕ, List, drop}
use Rattle.byteorder.specs.Endian.{little_number, big_number}
use Rattle.ecat_capture.specs.declared.order.Order.{Order}
use Rattle.ecat_capture.specs.declared.order.Order.TheVariants.{Little, Big}

-- the number in the two bytes from a place on
unfoldable pub half : Order → ℕ → List ℕ → ℕ
half Little at bytes = little_number 2 (drop at bytes)
half Big at bytes = big_number 2 (drop at bytes)

-- the number in the four bytes from a place on
unfoldable pub word : Order → ℕ → List ℕ → ℕ
word Little at bytes = little_number 4 (drop at bytes)
word Big at bytes = big_number 4 (drop at bytes)
