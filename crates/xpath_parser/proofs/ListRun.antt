-- The machine whose code is a list of operations, the last first.
use Rattle.std.proofs.Common.{List, [], ◌∷◌, Bool, Option}
use Rattle.xpath_parser.specs.declared.query.Axis.{Axis}
use Rattle.xpath_parser.specs.declared.token.Token.{Token}
use Rattle.xpath_parser.specs.declared.postfix.Op.{Op}
use Rattle.xpath_parser.specs.declared.machine.Level.{Level}
use Rattle.xpath_parser.specs.declared.machine.Place.{Place}
use Rattle.xpath_parser.specs.declared.machine.Frame.{Frame}
use Rattle.xpath_parser.specs.declared.machine.Mode.{Mode}
use Rattle.xpath_parser.specs.Run as machine

abbrev pub At : Type 0
At = machine.At (List Op)

abbrev pub moved : Mode → List Frame → List Op → Option At
moved m fs o = machine.moved m fs o

abbrev pub ands_on : Bool → List Op → List Op
ands_on b o = machine.ands_on ◌∷◌ b o

abbrev pub ors_on : Bool → List Op → List Op
ors_on b o = machine.ors_on ◌∷◌ b o

abbrev pub level_on : Level → List Op → List Op
level_on l o = machine.level_on ◌∷◌ l o

abbrev pub closed_parens : List Frame → List Op → Option At
closed_parens fs o = machine.closed_parens ◌∷◌ fs o

abbrev pub closed_filter : List Frame → List Op → Option At
closed_filter fs o = machine.closed_filter ◌∷◌ fs o

abbrev pub after_unit : Level → List Frame → List Op → Token → Option At
after_unit l fs o t = machine.after_unit ◌∷◌ l fs o t

abbrev pub after_paths : Place → List Frame → List Op → Token → Option At
after_paths p fs o t = machine.after_paths ◌∷◌ p fs o t

abbrev pub after_step : Place → List Frame → List Op → Token → Option At
after_step p fs o t = machine.after_step ◌∷◌ p fs o t

abbrev pub after_test : Place → List Frame → List Op → Token → Option At
after_test p fs o t = machine.after_test ◌∷◌ p fs o t

abbrev pub step_wanted : Place → List Frame → List Op → Token → Option At
step_wanted p fs o t = machine.step_wanted ◌∷◌ p fs o t

abbrev pub test_wanted : Place → Axis → List Frame → List Op → Token → Option At
test_wanted p x fs o t = machine.test_wanted ◌∷◌ p x fs o t

abbrev pub unit_wanted : Level → List Frame → List Op → Token → Option At
unit_wanted l fs o t = machine.unit_wanted ◌∷◌ l fs o t

abbrev pub first_wanted : List Frame → List Op → Token → Option At
first_wanted fs o t = machine.first_wanted ◌∷◌ fs o t

abbrev pub after_root : List Frame → List Op → Token → Option At
after_root fs o t = machine.after_root ◌∷◌ fs o t

abbrev pub step : At → Token → Option At
step s t = machine.step ◌∷◌ s t

abbrev pub ended_path : Place → List Op → Option (List Op)
ended_path p o = machine.ended_path ◌∷◌ p o

abbrev pub ended : At → Option (List Op)
ended s = machine.ended ◌∷◌ s

abbrev pub run : Option At → List Token → Option (List Op)
run s ts = machine.run ◌∷◌ s ts

abbrev pub start : Option At
start = machine.start []
