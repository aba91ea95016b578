-- What is ahead stays while more of it is loaded; each read brings a byte at least.
use Rattle.std.proofs.Common.{◌≡◌, ◌≤◌, ◌-◌, length, take}
use Rattle.std.specs.Io.KnownBytes.{Keeps}
use Rattle.ecat_capture.specs.Input.{ahead}
use Rattle.ecat_capture.proofs.window.Window.fill.Given as goal

abbrev pub invariant-loop-self : goal.invariant-loop-self
invariant-loop-self g l = record {
  same : Keeps (ahead l.initial.self) (ahead l.self);
  front : take (length l.initial.self.loaded) l.self.loaded ≡ l.initial.self.loaded;
  more : length l.initial.self.loaded ≤ length l.self.loaded;
  place : l.self.place ≡ l.initial.self.place;
  monotone : l.initial.self.count ≤ l.self.count;
}

abbrev pub decreases-loop-self : goal.decreases-loop-self
decreases-loop-self g l = l.wanted - length l.self.loaded
