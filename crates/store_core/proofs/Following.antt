-- Rules that keep their numbers through a settling, as the counts follow them.
use Rattle.std.proofs.Common.{◌≡◌, ℕ, List, length, get_or, ap, ◌∙◌, sym, subst, arith}
use Rattle.slt_grammar.proofs.KeyedLemmas.{length-rules_of}
use Rattle.slt_grammar.specs.Keyed.{KeyedRule, rules_of}
use Rattle.segment_counts.specs.Following.{HaveValuesByNumber}
use Rattle.digram_index.proofs.Numbered.{same-values}
use Rattle.digram_index.specs.Linked.{Linked}
use Rattle.digram_index.specs.Marking.{KeepsMarked}
use Rattle.digram_index.specs.Numbers.{AreBelow, AreDistinct}

-- where no two rules had one number, a rule that had a number before a settling has the value of the one that has it behind
pub values-followed : (before now : List ℕ) (G H : List KeyedRule) (I marked J : Linked) → marked ≡ record I { marked = marked.marked } → before ≡ I.numbers → now ≡ J.numbers
    → length I.numbers ≡ length G → AreDistinct I.numbers → AreBelow I.numbers I.given → KeepsMarked G marked H J → HaveValuesByNumber before now (rules_of G) (rules_of H)
values-followed before now G H I marked J same was is many distinct below kept =
    let numbers : marked.numbers ≡ I.numbers = ap (λ (X : Linked). X.numbers) same in
    record {
      values = λ q r hq hr e. same-values G marked H J kept.rules (ap length numbers ∙ many)
          (subst (λ (X : Linked). AreDistinct X.numbers) (sym same) distinct) (subst (λ (X : Linked). AreBelow X.numbers X.given) (sym same) below)
          q r (omega (arith, hq, length-rules_of H)) (omega (arith, hr, length-rules_of G))
          (ap (λ (ns : List ℕ). get_or ns q 0) (sym is) ∙ e ∙ ap (λ (ns : List ℕ). get_or ns r 0) (was ∙ sym numbers));
    }
