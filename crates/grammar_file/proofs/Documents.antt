-- Rules, names and texts stand for a document exactly where the chain is one document, the texts are lawful at its symbols, and
-- its attributes are unlike.
use Rattle.std.proofs.Common.{◌≡◌, ◌≢◌, ℕ, ◌-◌, ◌<◌, List, [], Some, slice_get, length, sym, ap, ◌∙◌, subst, arith}
use Rattle.std.specs.Prelude.{Bool, true, false, Result, Ok, Err, IfOk, IsTrue, ◌↔◌}
use Rattle.plain_tree.specs.declared.kind.Kind.{Kind}
use Rattle.plain_tree.specs.declared.kind.Kind.TheVariants.{Document}
use Rattle.plain_tree.specs.Tree.{Tree, node, none, more}
use Rattle.plain_tree.specs.Lawful.{IsLawfulName, IsOfKind, AreKids, AreLawfulTrees}
use Rattle.plain_tree.specs.Numbers.{texts_all}
use Rattle.plain_tree.specs.NameTable.{AreDistinct}
use Rattle.slt_grammar.specs.Coding.{Codes}
use Rattle.slt_grammar.specs.Grammars.{IsGrammar, rank_at, value}
use Rattle.slt_grammar.specs.Segments.{listed}
use Rattle.slt_grammar.specs.Standing.{StandsFor}
use Rattle.slt_grammar.specs.Terms.{Term, holes, holes_of}
use Rattle.slt_grammar.specs.declared.rules.Rule.{Rule}
use Rattle.slt_grammar.proofs.Linear.{value_at-linear}
use Rattle.slt_grammar.proofs.Standing.{texts-one}
use Rattle.grammar_file.specs.declared.chains.Chain.{Chain}
use Rattle.grammar_file.specs.declared.chains.Chain.TheVariants.{Broken, Empty, Whole, Rooted}
use Rattle.grammar_file.specs.Chains.{behind_node, chain_of, document}
use Rattle.grammar_file.specs.TextSymbols.{text_symbols, AreTextsOf}
use Rattle.grammar_file.specs.Unlike.{AreRightTexts}
use Rattle.grammar_file.proofs.AttributeLemmas.{unlike-document}
use Rattle.grammar_file.proofs.ChainLemmas.{IsChainOf}
use Rattle.grammar_file.proofs.Decoding.{decoded, kind_in, node-chain}
use Rattle.grammar_file.proofs.Telling.{told, texts-told}

-- the value of a grammar has no holes
pub value-closed : (G : List Rule) → IsGrammar G → holes_of (value G) ≡ []
value-closed G g =
    let last : length G - 1 < length G = omega (arith, g.some) in
    let rank : rank_at G (length G - 1) ≡ 0 = (g.each (length G - 1) last).shaped.start (omega (arith, g.some)) in
    value_at-linear G (length G - 1) g last ∙ ap (holes 0) rank

whole-not : (c : Chain) → c ≡ Whole → c ≢ Broken
whole-not c e b = let s : Whole ≡ Broken = sym e ∙ b in cc

pub stands : (G : List Rule) (names : List (Kind × List ℕ)) (values : List (List ℕ)) → IsGrammar G → AreDistinct names
    → ((i : ℕ) (kind : Kind) (name : List ℕ) → slice_get names i ≡ Some (kind, name) → IsLawfulName kind name)
    → chain_of names (value G) ≡ Whole → AreRightTexts names (listed (value G) []) values → (t : Tree) × StandsFor G names values t
stands G names values g one named e h =
    let d = decoded names one named (value G) values (value-closed G g) h.fit h.unlike (whole-not (chain_of names (value G)) e) in
    let w : IsChainOf Whole d.trees = subst (λ c. IsChainOf c d.trees) e d.chain in (
      w.0,
      record {
        document = record { is_document = w.2; lawful = (subst AreLawfulTrees w.1 d.lawful).0 };
        distinct = one;
        lawful = named;
        code = subst (λ ts. Codes names ts (value G)) w.1 d.code;
        texts = sym d.own_texts ∙ ap texts_all w.1 ∙ texts-one w.0;
      },
    )

whole-told : (names : List (Kind × List ℕ)) (term : Term) (t : Tree) → IsOfKind Document t → Codes names (more t none) term → AreLawfulTrees (more t none) → chain_of names term ≡ Whole
whole-told names term (node k n v ks) i c l =
    let ka = told names ks c.1 c.4 l.0.2 in
    let rooted : chain_of names c.1 ≡ Rooted = ka.rooted (subst (λ kind. AreKids kind ks) i l.0.1) in
    let empty : chain_of names c.2 ≡ Empty = ap (chain_of names) c.5 in
    ap (chain_of names) c.6 ∙ node-chain names c.0 c.1 c.2 ∙ ap (λ p. behind_node (kind_in p) (chain_of names c.1) (chain_of names c.2)) c.3
    ∙ ap (λ kind. behind_node (Some kind) (chain_of names c.1) (chain_of names c.2)) i
    ∙ ap (λ x. document x (chain_of names c.2)) rooted ∙ ap (document Rooted) empty

pub told-whole : (G : List Rule) (names : List (Kind × List ℕ)) (values : List (List ℕ)) (t : Tree) → StandsFor G names values t → chain_of names (value G) ≡ Whole
told-whole G names values t s = whole-told names (value G) t s.document.is_document s.code (s.document.lawful, tt)

pub told-texts : (G : List Rule) (names : List (Kind × List ℕ)) (values : List (List ℕ)) (t : Tree) → StandsFor G names values t → AreRightTexts names (listed (value G) []) values
told-texts G names values t s = record {
  fit = subst (AreTextsOf names (text_symbols names (listed (value G) []))) (texts-one t ∙ sym s.texts) (texts-told names (more t none) (value G) s.code (s.document.lawful, tt));
  unlike = unlike-document names t (value G) s.document.is_document s.code (s.document.lawful, tt);
}

-- ---- answers that are true exactly where something holds
pub not-false : (b : Bool) → b ≡ false → IsTrue b → ⊥
not-false b e h = let f : false ≡ true = sym e ∙ h in cc

pub yes-so : {A B E : Type 0} (r : Result Bool E) → IfOk r (λ yes. IsTrue yes ↔ A) → (A → B) → IfOk r (λ yes. yes ≡ true → B)
yes-so (Ok b) h f = λ e. f (h.0 e)
yes-so (Err e) h f = h

pub no-not : {A B E : Type 0} (T : B → Type 0) (r : Result Bool E) → IfOk r (λ yes. IsTrue yes ↔ A) → ((t : B) → T t → A) → IfOk r (λ yes. yes ≡ false → (t : B) → T t → ⊥)
no-not T (Ok b) h f = λ e t s. not-false b e (h.1 (f t s))
no-not T (Err e) h f = h
