use Rattle.std.proofs.Common.{decimal, ap, subst, sym, ◌∙◌}
use Rattle.std.specs.Result.{result_ok}
use Rattle.std.specs.Str.{IsUtf8}
use Rattle.std.proofs.lemmas.Str.{IsUtf8-from_ascii}
use Rattle.std.proofs.lemmas.Fmt.{IsAscii-decimal, parse-decimal}
use Rattle.store_shell.proofs.parse.whole_number.Goals as goal

pub returns-in_default : goal.returns-in_default
returns-in_default c = λ n small same.
    absurd (c.in_default.ensures.cases.0 (subst IsUtf8 (sym same) (IsUtf8-from_ascii (decimal n) (IsAscii-decimal n small))))

pub returns : goal.returns
returns c = λ n small same.
    let read = parse-decimal 64 n c.in-Ok.text.now c.parse.result small small (c.in-Ok.ensures.cases.0 ∙ same) c.parse.ensures.value.0 in
    c.ok.ensures.value ∙ ap result_ok read
