-- The chain of a code of lawful trees is what the trees are, and their texts are lawful at the code's symbols.
use Rattle.std.proofs.Common.{◌≡◌, ℕ, Bool, true, false, List, [], ◌++◌, Some, slice_get, refl, sym, ap, ◌∙◌, subst, if◌then◌else◌}
use Rattle.plain_tree.specs.declared.kind.Kind.{Kind}
use Rattle.plain_tree.specs.declared.kind.Kind.TheVariants.{Document, Element, Attribute, Text, Comment, Instruction}
use Rattle.plain_tree.specs.Tree.{Tree, node, Trees, none, more}
use Rattle.plain_tree.specs.Lawful.{IsLawfulValue, AreElementKids, AreDocumentKids, AreKids, AreLawfulTrees}
use Rattle.plain_tree.specs.Numbers.{texts_all}
use Rattle.slt_grammar.specs.Coding.{Codes}
use Rattle.slt_grammar.specs.Segments.{listed}
use Rattle.slt_grammar.specs.Terms.{Term}
use Rattle.slt_grammar.proofs.Standing.{own, texts_all-more}
use Rattle.grammar_file.specs.declared.chains.Chain.{Chain}
use Rattle.grammar_file.specs.declared.chains.Chain.TheVariants.{Broken, Empty, Whole, Aside, Rooted, Content, Tagged}
use Rattle.grammar_file.specs.Chains.{is_empty, is_of_element, document, behind_element, behind_text, behind_aside, behind_attribute, behind_node, chain_of}
use Rattle.grammar_file.specs.TextSymbols.{if_valued, text_symbols, IsTextOf, AreTextsOf}
use Rattle.grammar_file.proofs.ChainLemmas.{true-false, false-true}
use Rattle.grammar_file.proofs.Decoding.{kind_in, node-chain, symbols-listed, texts-join}

-- kids of an element, none of them an attribute
abbrev is_plain : Chain → Bool
is_plain Empty = true
is_plain Aside = true
is_plain Rooted = true
is_plain Content = true
is_plain c = false

-- comments and instructions at most
abbrev is_aside : Chain → Bool
is_aside Empty = true
is_aside Aside = true
is_aside c = false

module _ (names : List (Kind × List ℕ)) where
  -- what trees tell of their chain
  pub record IsTold (ts : Trees) (c : Chain) : Type 0 where
    pub empty : ts ≡ none → c ≡ Empty
    pub plain : AreElementKids false ts → is_plain c ≡ true
    pub of_element : AreElementKids true ts → is_of_element c ≡ true
    pub aside : AreDocumentKids true ts → is_aside c ≡ true
    pub rooted : AreDocumentKids false ts → c ≡ Rooted

  not-none : (t : Tree) (ts : Trees) → more t ts ≡ none → ⊥
  not-none t ts e = cc

  -- what is behind a node of a kind
  plain-element : (c : Chain) → is_plain c ≡ true → is_plain (behind_element c) ≡ true
  plain-element Empty e = refl
  plain-element Aside e = refl
  plain-element Rooted e = refl
  plain-element Content e = refl
  plain-element Broken e = e
  plain-element Whole e = e
  plain-element Tagged e = e

  rooted-element : (c : Chain) → is_aside c ≡ true → behind_element c ≡ Rooted
  rooted-element Empty e = refl
  rooted-element Aside e = refl
  rooted-element Rooted e = absurd (false-true e)
  rooted-element Content e = absurd (false-true e)
  rooted-element Broken e = absurd (false-true e)
  rooted-element Whole e = absurd (false-true e)
  rooted-element Tagged e = absurd (false-true e)

  plain-text : (c : Chain) → is_plain c ≡ true → is_plain (behind_text c) ≡ true
  plain-text Empty e = refl
  plain-text Aside e = refl
  plain-text Rooted e = refl
  plain-text Content e = refl
  plain-text Broken e = e
  plain-text Whole e = e
  plain-text Tagged e = e

  plain-aside : (c : Chain) → is_plain c ≡ true → is_plain (behind_aside c) ≡ true
  plain-aside Empty e = refl
  plain-aside Aside e = refl
  plain-aside Rooted e = refl
  plain-aside Content e = refl
  plain-aside Broken e = e
  plain-aside Whole e = e
  plain-aside Tagged e = e

  aside-aside : (c : Chain) → is_aside c ≡ true → is_aside (behind_aside c) ≡ true
  aside-aside Empty e = refl
  aside-aside Aside e = refl
  aside-aside Rooted e = e
  aside-aside Content e = e
  aside-aside Broken e = e
  aside-aside Whole e = e
  aside-aside Tagged e = e

  plain-of-element : (c : Chain) → is_plain c ≡ true → is_of_element c ≡ true
  plain-of-element Empty e = refl
  plain-of-element Aside e = refl
  plain-of-element Rooted e = refl
  plain-of-element Content e = refl
  plain-of-element Broken e = e
  plain-of-element Whole e = e
  plain-of-element Tagged e = absurd (false-true e)

  if-true : (b : Bool) (x y : Chain) → b ≡ true → (if b then x else y) ≡ x
  if-true b x y e = rw e refl

  of-element-attribute : (c : Chain) → is_of_element c ≡ true → is_of_element (behind_attribute c) ≡ true
  of-element-attribute Empty e = refl
  of-element-attribute Aside e = refl
  of-element-attribute Rooted e = refl
  of-element-attribute Content e = refl
  of-element-attribute Tagged e = refl
  of-element-attribute Broken e = e
  of-element-attribute Whole e = e

  -- ---- a node before trees whose chain is told
  told-document : (n v : List ℕ) (ks ts : Trees) (ka kb : Chain) → IsTold (more (node Document n v ks) ts) (document ka kb)
  told-document n v ks ts ka kb = record { empty = λ e. absurd (not-none (node Document n v ks) ts e); plain = λ h. absurd h; of_element = λ h. absurd h; aside = λ h. absurd h; rooted = λ h. absurd h }

  told-element : (n v : List ℕ) (ks ts : Trees) (kb : Chain) → IsTold ts kb → IsTold (more (node Element n v ks) ts) (behind_element kb)
  told-element n v ks ts kb t = record {
    empty = λ e. absurd (not-none (node Element n v ks) ts e);
    plain = λ h. plain-element kb (t.plain h);
    of_element = λ h. plain-of-element (behind_element kb) (plain-element kb (t.plain h));
    aside = λ h. absurd (true-false h.0);
    rooted = λ h. rooted-element kb (t.aside h.1);
  }

  told-attribute : (n v : List ℕ) (ks ts : Trees) (kb : Chain) → IsTold ts kb → IsTold (more (node Attribute n v ks) ts) (behind_attribute kb)
  told-attribute n v ks ts kb t = record {
    empty = λ e. absurd (not-none (node Attribute n v ks) ts e);
    plain = λ h. absurd (false-true h.0);
    of_element = λ h. of-element-attribute kb (t.of_element h.2);
    aside = λ h. absurd h;
    rooted = λ h. absurd h;
  }

  told-text : (n v : List ℕ) (ks ts : Trees) (kb : Chain) → IsTold ts kb → IsTold (more (node Text n v ks) ts) (behind_text kb)
  told-text n v ks ts kb t = record {
    empty = λ e. absurd (not-none (node Text n v ks) ts e);
    plain = λ h. plain-text kb (t.plain h);
    of_element = λ h. plain-of-element (behind_text kb) (plain-text kb (t.plain h));
    aside = λ h. absurd h;
    rooted = λ h. absurd h;
  }

  rooted-aside : (c : Chain) → c ≡ Rooted → behind_aside c ≡ Rooted
  rooted-aside c e = ap behind_aside e

  told-comment : (n v : List ℕ) (ks ts : Trees) (kb : Chain) → IsTold ts kb → IsTold (more (node Comment n v ks) ts) (behind_aside kb)
  told-comment n v ks ts kb t = record {
    empty = λ e. absurd (not-none (node Comment n v ks) ts e);
    plain = λ h. plain-aside kb (t.plain h);
    of_element = λ h. plain-of-element (behind_aside kb) (plain-aside kb (t.plain h));
    aside = λ h. aside-aside kb (t.aside h);
    rooted = λ h. rooted-aside kb (t.rooted h);
  }

  told-instruction : (n v : List ℕ) (ks ts : Trees) (kb : Chain) → IsTold ts kb → IsTold (more (node Instruction n v ks) ts) (behind_aside kb)
  told-instruction n v ks ts kb t = record {
    empty = λ e. absurd (not-none (node Instruction n v ks) ts e);
    plain = λ h. plain-aside kb (t.plain h);
    of_element = λ h. plain-of-element (behind_aside kb) (plain-aside kb (t.plain h));
    aside = λ h. aside-aside kb (t.aside h);
    rooted = λ h. rooted-aside kb (t.rooted h);
  }

  with-none : (ks : Trees) (ka rest : Chain) → IsTold ks ka → ks ≡ none → (if is_empty ka then rest else Broken) ≡ rest
  with-none ks ka rest t e = if-true (is_empty ka) rest Broken (ap is_empty (t.empty e))

  told-node : (kind : Kind) (n v : List ℕ) (ks ts : Trees) (ka kb : Chain) → AreKids kind ks → IsTold ks ka → IsTold ts kb
      → IsTold (more (node kind n v ks) ts) (behind_node (Some kind) ka kb)
  told-node Document n v ks ts ka kb kids a b = told-document n v ks ts ka kb
  told-node Element n v ks ts ka kb kids a b =
      subst (IsTold (more (node Element n v ks) ts)) (sym (if-true (is_of_element ka) (behind_element kb) Broken (a.of_element kids))) (told-element n v ks ts kb b)
  told-node Attribute n v ks ts ka kb kids a b = subst (IsTold (more (node Attribute n v ks) ts)) (sym (with-none ks ka (behind_attribute kb) a kids)) (told-attribute n v ks ts kb b)
  told-node Text n v ks ts ka kb kids a b = subst (IsTold (more (node Text n v ks) ts)) (sym (with-none ks ka (behind_text kb) a kids)) (told-text n v ks ts kb b)
  told-node Comment n v ks ts ka kb kids a b = subst (IsTold (more (node Comment n v ks) ts)) (sym (with-none ks ka (behind_aside kb) a kids)) (told-comment n v ks ts kb b)
  told-node Instruction n v ks ts ka kb kids a b = subst (IsTold (more (node Instruction n v ks) ts)) (sym (with-none ks ka (behind_aside kb) a kids)) (told-instruction n v ks ts kb b)

  pub told : (ts : Trees) (term : Term) → Codes names ts term → AreLawfulTrees ts → IsTold ts (chain_of names term)
  told none term c l = subst (IsTold none) (sym (ap (chain_of names) c)) (record { empty = λ e. refl; plain = λ h. refl; of_element = λ h. refl; aside = λ h. refl; rooted = λ h. absurd (false-true h) })
  told (more (node k n v ks) ts) term c l =
      let f = c.0 in
      let ka = chain_of names c.1 in
      let kb = chain_of names c.2 in
      let t = told-node k n v ks ts ka kb l.0.1 (told ks c.1 c.4 l.0.2) (told ts c.2 c.5 l.1) in
      let e : chain_of names term ≡ behind_node (Some k) ka kb = ap (chain_of names) c.6 ∙ node-chain names f c.1 c.2 ∙ ap (λ p. behind_node (kind_in p) ka kb) c.3 in
      subst (IsTold (more (node k n v ks) ts)) (sym e) t

  -- ---- texts
  own-valued : (k : Kind) (f : ℕ) (n v : List ℕ) → slice_get names f ≡ Some (k, n) → IsLawfulValue k v → AreTextsOf names (if_valued (Some (k, n)) f) (own k v)
  own-valued Document f n v s l = tt
  own-valued Element f n v s l = tt
  own-valued Attribute f n v s l = (subst (λ p. IsTextOf p v) (sym s) l, tt)
  own-valued Text f n v s l = (subst (λ p. IsTextOf p v) (sym s) l, tt)
  own-valued Comment f n v s l = (subst (λ p. IsTextOf p v) (sym s) l, tt)
  own-valued Instruction f n v s l = (subst (λ p. IsTextOf p v) (sym s) l, tt)

  pub texts-told : (ts : Trees) (term : Term) → Codes names ts term → AreLawfulTrees ts → AreTextsOf names (text_symbols names (listed term [])) (texts_all ts)
  texts-told none term c l = subst (λ t. AreTextsOf names (text_symbols names (listed t [])) []) (sym c) tt
  texts-told (more (node k n v ks) ts) term c l =
      let f = c.0 in
      let a = c.1 in
      let b = c.2 in
      let first = own-valued k f n v c.3 l.0.0.1 in
      let rest = texts-join names (text_symbols names (listed a [])) (text_symbols names (listed b [])) (texts_all ks) (texts_all ts) (texts-told ks a c.4 l.0.2) (texts-told ts b c.5 l.1) in
      let rest2 = subst (λ fs. AreTextsOf names fs (texts_all ks ++ texts_all ts)) (sym (symbols-listed names a (listed b []))) rest in
      let whole = texts-join names (if_valued (Some (k, n)) f) (text_symbols names (listed a (listed b []))) (own k v) (texts_all ks ++ texts_all ts) first rest2 in
      let e : text_symbols names (listed term []) ≡ if_valued (Some (k, n)) f ++ text_symbols names (listed a (listed b [])) =
      ap (λ t. text_symbols names (listed t [])) c.6 ∙ ap (λ p. if_valued p f ++ text_symbols names (listed a (listed b []))) c.3 in
      subst (λ fs. AreTextsOf names fs (texts_all (more (node k n v ks) ts))) (sym e) (subst (AreTextsOf names (if_valued (Some (k, n)) f ++ text_symbols names (listed a (listed b [])))) (sym (texts_all-more k n v ks ts)) whole)
