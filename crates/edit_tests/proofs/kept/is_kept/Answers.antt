use Rattle.std.proofs.Common.{◌≡◌, Option, Some, None, ap, sym, ◌∙◌, subst}
use Rattle.std.specs.Option.{option_map}
use Rattle.slt_grammar.specs.Grammars.{IsSwept}
use Rattle.store_core.specs.StoreOf.{parts_of}
use Rattle.store_core.specs.Worlds.{IsLawfulState, Parts, State, parts_in}
use Rattle.edit_tests.proofs.kept.is_kept.Goals as goal

same-parts : (p q : Parts) → ◌≡◌ {A = Option Parts} (Some p) (Some q) → p ≡ q
same-parts p q e = cc

-- of what is held lawfully each rule but the start is called
swept-held : (state : State) (parts : Parts) → Some parts ≡ parts_in state → IsLawfulState state → IsSwept parts.rules
swept-held None parts e h = absurd cc
swept-held (Some held) parts e h = subst (λ (p : Parts). IsSwept p.rules) (sym (same-parts parts held.parts e)) h.parts.swept

pub is_counted-requires : goal.is_counted-requires
is_counted-requires c =
    swept-held c.args.session.now (parts_of c.in-Some.store.now) (sym (ap (option_map (λ s. parts_of s.now)) c.in-Some.is) ∙ c.document.ensures.sees) c.document.ensures.held
