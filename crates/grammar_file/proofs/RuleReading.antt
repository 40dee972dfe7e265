-- The rules that are read.
use Rattle.std.proofs.Common.{◌≡◌, ℕ, zero, suc, ◌+◌, ◌<◌, ◌≤◌, List, [], ◌∷◌, ◌++◌, length, get_or, refl, sym, ◌∙◌, subst, arith, append_assoc, append-nil, length-append}
use Rattle.std.specs.List.{flat_map}
use Rattle.slt_grammar.specs.Algebras.{ranks_of}
use Rattle.slt_grammar.specs.Faults.{Shows}
use Rattle.slt_grammar.specs.Grammars.{IsGrammar, IsSwept}
use Rattle.slt_grammar.specs.declared.checking.GrammarError.{GrammarError}
use Rattle.slt_grammar.specs.declared.checking.GrammarError.TheVariants.{Memory}
use Rattle.slt_grammar.specs.declared.rules.Rule.{Rule}
use Rattle.grammar_file.specs.FileBytes.{list_bytes, rule_bytes}
use Rattle.grammar_file.specs.Files.{SymbolsBelow, AreNamed, AreRules}
use Rattle.grammar_file.specs.Forming.{IsRule, AreFormed}
use Rattle.grammar_file.specs.Reading.{BeginsNone}
use Rattle.grammar_file.proofs.Reading.{IsReading, Counted, reading_begins, reading_goes, reading_fails}
use Rattle.grammar_file.proofs.Formed.{grammar-formed, faulty}
use Rattle.grammar_file.proofs.Unique.{rule-unique, formed-unique}

formed-more : (P Rs : List Rule) (R : Rule) → AreFormed P Rs → IsRule (P ++ Rs) R → AreFormed P (Rs ++ R ∷ [])
formed-more P [] R h r = (subst (λ Q. IsRule Q R) (append-nil P) r, tt)
formed-more P (S ∷ Rs) R h r = (h.0, formed-more (P ++ S ∷ []) Rs R h.1 (subst (λ Q. IsRule Q R) (sym (append_assoc P (S ∷ []) Rs)) r))

formed-at : (P Rs : List Rule) (R : Rule) (Ss : List Rule) → AreFormed P (Rs ++ R ∷ Ss) → IsRule (P ++ Rs) R
formed-at P [] R Ss h = subst (λ Q. IsRule Q R) (sym (append-nil P)) h.0
formed-at P (S ∷ Rs) R Ss h = subst (λ Q. IsRule Q R) (append_assoc P (S ∷ []) Rs) (formed-at (P ++ S ∷ []) Rs R Ss h.1)

named-more : (names : ℕ) (Rs : List Rule) (R : Rule) → AreNamed names Rs → SymbolsBelow names R.body → AreNamed names (Rs ++ R ∷ [])
named-more names [] R h s = (s, tt)
named-more names (S ∷ Rs) R h s = (h.0, named-more names Rs R h.1 s)

named-at : (names : ℕ) (Rs : List Rule) (R : Rule) (Ss : List Rule) → AreNamed names (Rs ++ R ∷ Ss) → SymbolsBelow names R.body
named-at names [] R Ss h = h.0
named-at names (S ∷ Rs) R Ss h = named-at names Rs R Ss h.1

-- the ranks of such rules are allowed
formed-small : (P Rs : List Rule) → AreFormed P Rs → (q : ℕ) → get_or (ranks_of Rs) q 0 ≤ 8
formed-small P [] h q = omega arith
formed-small P (R ∷ Rs) h zero = h.0.small
formed-small P (R ∷ Rs) h (suc q) = formed-small (P ++ R ∷ []) Rs h.1 q

abbrev pub AreFormedNamed : ℕ → List Rule → Type 0
AreFormedNamed names G = AreFormed [] G × AreNamed names G

pub record IsReadingRules (names count : ℕ) (start : List ℕ) (rules : List Rule) (counter : ℕ) (left : List ℕ) : Type 0 where
  pub reading : IsReading (Counted (AreFormedNamed names) count) rule_bytes start rules left
  pub formed : AreFormed [] rules
  pub named : AreNamed names rules
  pub counted : length rules ≡ counter

module _ (names count : ℕ) (start : List ℕ) where
  pub rules_begin : IsReadingRules names count start [] 0 start
  rules_begin = record { reading = reading_begins (Counted (AreFormedNamed names) count) rule_bytes start; formed = tt; named = tt; counted = refl }

  module _ (rules : List Rule) (counter : ℕ) (left : List ℕ) (h : IsReadingRules names count start rules counter left) where
    pub rules_small : (q : ℕ) → get_or (ranks_of rules) q 0 ≤ 8
    rules_small = formed-small [] rules h.formed

    ends-not : counter < count → Counted (AreFormedNamed names) count rules → ⊥
    ends-not less s = omega (arith, s.1, h.counted)

    pub rules_go : counter < count → (before : List Rule) → before ≡ rules → (new : List ℕ) (R : Rule) → IsRule before R → SymbolsBelow names R.body → left ≡ rule_bytes R ++ new
        → IsReadingRules names count start (rules ++ R ∷ []) (counter + 1) new
    rules_go less before same new R given s e =
        let r : IsRule rules R = subst (λ Q. IsRule Q R) same given in record {
          reading = reading_goes (Counted (AreFormedNamed names) count) rule_bytes start rules left new R h.reading e (ends-not less)
              (λ S rest more sort is. rule-unique rules R S new more r (formed-at [] rules S rest sort.0.0) is);
          formed = formed-more [] rules R h.formed r;
          named = named-more names rules R h.named s;
          counted = omega (arith, length-append rules (R ∷ []), h.counted);
        }

    -- no rule comes next
    pub rules_break : counter < count → (before : List Rule) → before ≡ rules → BeginsNone (λ R. IsRule before R × SymbolsBelow names R.body) rule_bytes left
        → BeginsNone (Counted (AreFormedNamed names) count) (flat_map rule_bytes) start
    rules_break less before same bad =
        let none = subst (λ Q. BeginsNone (λ R. IsRule Q R × SymbolsBelow names R.body) rule_bytes left) same bad in
        reading_fails (Counted (AreFormedNamed names) count) rule_bytes start rules left (λ R. IsRule rules R × SymbolsBelow names R.body) h.reading (ends-not less)
        (λ S rest sort. (formed-at [] rules S rest sort.0.0, named-at names rules S rest sort.0.1)) none

pub rule_some : (R : Rule) → 0 < length (rule_bytes R)
rule_some R = omega arith

-- ---- rules that are no grammar
module _ (names : ℕ) (old : List ℕ) where
  pub grammar_breaks : BeginsNone (AreFormedNamed names) (list_bytes rule_bytes) old → BeginsNone (AreRules names) (list_bytes rule_bytes) old
  grammar_breaks bad G more h e = bad G more (grammar-formed G h.grammar, h.named) e

  pub grammar_is_faulty : (rules : List Rule) (new : List ℕ) (fault : GrammarError) → AreFormed [] rules → old ≡ list_bytes rule_bytes rules ++ new → Shows rules fault → (fault ≡ Memory → ⊥)
      → BeginsNone (AreRules names) (list_bytes rule_bytes) old
  grammar_is_faulty rules new fault formed is shows other G more h e =
      let told = formed-unique rules G new more formed (grammar-formed G h.grammar) (sym is ∙ e) in
      faulty rules fault other shows (subst IsGrammar (sym told.0) h.grammar) (subst IsSwept (sym told.0) h.swept)
