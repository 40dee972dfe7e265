use Rattle.std.proofs.Common.{◌≡◌, ℕ, List, length, ap, sym, ◌∙◌, arith, subst}
use Rattle.std.specs.Option.{option_copied}
use Rattle.std.proofs.lemmas.Bool.Decides.{nat_tests}
use Rattle.std.proofs.lemmas.List.{nil_from_length}
use Rattle.store_core.specs.CommandOf.{act_of}
use Rattle.store_shell.specs.Forms.{without_return, Asks}
use Rattle.store_shell.proofs.Kept.{too_long, not_long}
use Rattle.store_shell.proofs.Words.{asks_few}
use Rattle.store_shell.proofs.parse.parse.Goals as goal

pub returns-in_default-clause-form : goal.returns-in_default-clause-form
returns-in_default-clause-form c = λ bytes e. too_long bytes (option_copied c.args.line) e (ap option_copied c.in_default.is)

pub returns-then-is_empty-clause-form : goal.returns-then-is_empty-clause-form
returns-then-is_empty-clause-form c = λ bytes e.
    let s = not_long bytes c.in-Some.line.now (option_copied c.args.line) e (ap option_copied c.in-Some.is) in
    let none : length c.without_return-words.result.now ≡ 0 = grind (arith, nat_tests) in
    ap without_return s.0 ∙ (sym c.without_return-words.ensures ∙ nil_from_length _ none)

pub returns-then-is_quit-clause-form : goal.returns-then-is_quit-clause-form
returns-then-is_quit-clause-form c = λ bytes e.
    let s = not_long bytes c.in-Some.line.now (option_copied c.args.line) e (ap option_copied c.in-Some.is) in
    ap without_return s.0 ∙ (sym c.without_return-words.ensures ∙ c.is_quit.ensures.0 c.if-is_quit.true)

pub returns-in-Some-parse_command-clause-form : goal.returns-in-Some-parse_command-clause-form
returns-in-Some-parse_command-clause-form c = λ bytes e.
    let s = not_long bytes c.in-Some.line.now (option_copied c.args.line) e (ap option_copied c.in-Some.is) in
    let P : List ℕ → Type 0 = λ words. Asks words (act_of c.in-Some-parse_command.command) in
    (s.1, subst P (c.without_return-words.ensures ∙ sym (ap without_return s.0)) c.in-Some-parse_command.ensures)

pub returns-in-None-clause-form : goal.returns-in-None-clause-form
returns-in-None-clause-form c = λ bytes e.
    let s = not_long bytes c.in-Some.line.now (option_copied c.args.line) e (ap option_copied c.in-Some.is) in
    let same : without_return bytes ≡ c.without_return-words.result.now = ap without_return s.0 ∙ sym c.without_return-words.ensures in (
      s.1,
      λ none. let zero : length c.without_return-words.result.now ≡ 0 = ap length (sym same ∙ none) in grind (arith, nat_tests),
      λ quit. let ends = c.is_quit.ensures.1 (sym same ∙ quit) in absurd (cc),
      λ act asks. let P : List ℕ → Type 0 = λ words. Asks words act in c.in-None.ensures act (subst P same asks),
    )

pub returns-in-Some-parse_command-clause-few : goal.returns-in-Some-parse_command-clause-few
returns-in-Some-parse_command-clause-few c = asks_few _ (act_of c.in-Some-parse_command.command) c.in-Some-parse_command.ensures
