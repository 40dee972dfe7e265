-- Equal chains are identical.
use Rattle.std.specs.Prelude.{◌≡◌, true, false, refl}
use Rattle.grammar_file.specs.declared.chains.Chain.{Chain}
use Rattle.grammar_file.specs.declared.chains.Chain.TheVariants.{Broken, Empty, Whole, Aside, Rooted, Content, Tagged}
use Rattle.grammar_file.specs.contracts.chains.ChainPartialEq.TheImpl.{eq-value}

different : false ≡ true → ⊥
different e = cc

pub same_chain : (a b : Chain) → eq-value.it a b ≡ true → a ≡ b
same_chain Broken Broken e = refl
same_chain Empty Empty e = refl
same_chain Whole Whole e = refl
same_chain Aside Aside e = refl
same_chain Rooted Rooted e = refl
same_chain Content Content e = refl
same_chain Tagged Tagged e = refl
same_chain a b e = absurd (different e)
