use Rattle.grammar_file.proofs.NameReading.{name_is_lawless}
use Rattle.grammar_file.proofs.names.read_name.Goals as goal

pub returns-then-not-is_lawful_name : goal.returns-then-not-is_lawful_name
returns-then-not-is_lawful_name c =
    name_is_lawless c.args.scan.now c.read_kind.new.scan c.text.new.self c.in_ok-kind.kind c.in_ok-name.name.now c.in_ok-kind.ensures.1 c.in_ok-name.ensures.1
    (λ lawful. let yes = c.if-not-is_lawful_name.ensures.1 lawful in cc)
