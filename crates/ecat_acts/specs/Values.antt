-- The value of the command line.
use Rattle.ec_app.specs.declared.value.Value.{Value}
use Rattle.ec_app.specs.declared.value.Value.TheVariants.{One, Two, Four}
use Rattle.ecat_args.specs.declared.number.Value.{Value as Word}
use Rattle.ecat_args.specs.declared.number.Value.TheVariants.{One as OneWord, Two as TwoWord}
use Rattle.ecat_args.specs.declared.number.Value.TheVariants.{Four as FourWord}

-- the value of the command line, of its size
abbrev pub value_of : Word → Value
value_of (OneWord n) = One n
value_of (TwoWord n) = Two n
value_of (FourWord n) = Four n
