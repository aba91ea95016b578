-- What is ahead of a reader that looks at the front of it before it takes it.
use Rattle.std.specs.Prelude.{ℕ, ◌+◌, ◌^◌, ◌-◌, List, Option, take, drop, min}
use Rattle.std.specs.Io.KnownBytes.{Consumes, IsAtEnd, prepend_known}
use Rattle.ecat_source.specs.Source.{CanFail}

-- the bytes that were read and not taken yet; what the source has left behind them, where it tells that; its
-- count of failures; how many bytes were taken; and the bytes of the packet that was taken last
pub record Input : Type 0 where
  pub loaded : List ℕ
  pub rest : Option (List ℕ)
  pub count : ℕ
  pub place : ℕ
  pub packet : List ℕ

-- all bytes ahead, where the source tells them
abbrev pub ahead : Input → Option (List ℕ)
ahead input = prepend_known input.loaded input.rest

-- the bytes from one place up to another
abbrev pub run : ℕ → ℕ → List ℕ → List ℕ
run from to bytes = take (to - from) (drop from bytes)

-- the place behind so many bytes; a count of bytes stops at the greatest u64
abbrev pub place_behind : ℕ → ℕ → ℕ
place_behind place count = min (place + count) (2 ^ 64 - 1)

-- The bytes ahead begin with these.
pub record BeginsWith (known : Option (List ℕ)) (front : List ℕ) : Type 0 where
  pub rest : Option (List ℕ)
  pub split : Consumes known rest front

-- Nothing more can be read: a source says so at its end, and also where its count of failures is full.
abbrev pub IsExhausted : Input → Type 0
IsExhausted input = CanFail input.count → IsAtEnd input.rest
