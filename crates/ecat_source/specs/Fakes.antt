-- What a source for tests does with its reads.
use Rattle.std.specs.Prelude.{ℕ}
use Rattle.ecat_source.specs.declared.fakes.FailsAt.{FailsAt}

-- how many reads succeed before the one that fails
abbrev pub reads_before_failure : FailsAt → ℕ
reads_before_failure source = source.reads_before
