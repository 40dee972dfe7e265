-- A term whose chain is not broken, with unlike attributes, codes lawful trees, with any texts that are lawful at its symbols.
use Rattle.std.proofs.Common.{◌≡◌, ◌≢◌, ℕ, Bool, true, false, List, [], ◌∷◌, ◌++◌, Option, Some, None, option_map, slice_get, refl, sym, ap, ◌∙◌, subst, append_assoc, if◌then◌else◌}
use Rattle.std.proofs.lemmas.Option.{slice_get-map}
use Rattle.plain_tree.specs.declared.kind.Kind.{Kind}
use Rattle.plain_tree.specs.declared.kind.Kind.TheVariants.{Document, Element, Attribute, Text, Comment, Instruction}
use Rattle.plain_tree.specs.Tree.{node, Trees, none, more}
use Rattle.plain_tree.specs.Lawful.{IsLawfulName, IsLawfulValue, IsNew, AreElementKids, AreKids, AreLawfulTrees}
use Rattle.plain_tree.specs.Numbers.{texts_all}
use Rattle.plain_tree.specs.NameTable.{AreDistinct}
use Rattle.rule_arena.specs.declared.label.Label.{Label}
use Rattle.slt_grammar.specs.Coding.{Codes}
use Rattle.slt_grammar.specs.Segments.{listed}
use Rattle.slt_grammar.specs.Terms.{Term, Leaf, Node, Hole, holes_of}
use Rattle.slt_grammar.proofs.Standing.{own, texts_all-more}
use Rattle.grammar_file.specs.declared.chains.Chain.{Chain}
use Rattle.grammar_file.specs.declared.chains.Chain.TheVariants.{Broken, Empty, Whole, Aside, Rooted, Content, Tagged}
use Rattle.grammar_file.specs.Chains.{is_empty, is_of_element, document, behind_element, behind_text, behind_aside, behind_attribute, behind_node, chain_of}
use Rattle.grammar_file.specs.TextSymbols.{if_valued, text_symbols, IsTextOf, AreTextsOf}
use Rattle.grammar_file.specs.Marks.{mark_at, marks}
use Rattle.grammar_file.specs.Unlike.{AreUnlike}
use Rattle.grammar_file.proofs.AttributeLemmas.{marks-listed, unlike-left, unlike-right, new-first}
use Rattle.grammar_file.proofs.ChainLemmas.{IsChainOf, none-empty, of-element, before-element, before-text, before-comment, before-instruction, before-attribute, behind-attribute}

-- the kind of a pair
abbrev pub kind_in : Option (Kind × List ℕ) → Option Kind
kind_in = option_map (λ pair. pair.0)

pub append-empty : {X : Type 0} (xs ys : List X) → xs ++ ys ≡ [] → (xs ≡ []) × (ys ≡ [])
append-empty [] ys e = (refl, e)
append-empty (x ∷ xs) ys e = cc

module _ (names : List (Kind × List ℕ)) where
  pub symbols-listed : (t : Term) (rest : List Label) → text_symbols names (listed t rest) ≡ text_symbols names (listed t []) ++ text_symbols names rest
  symbols-listed Leaf rest = refl
  symbols-listed (Hole i) rest = refl
  symbols-listed (Node f a b) rest =
      let own : List ℕ = if_valued (slice_get names f) f in
      let p = symbols-listed a (listed b rest) ∙ ap (λ xs. text_symbols names (listed a []) ++ xs) (symbols-listed b rest) in
      let q = symbols-listed a (listed b []) in
      ap (λ xs. own ++ xs) (p ∙ sym (append_assoc (text_symbols names (listed a [])) (text_symbols names (listed b [])) (text_symbols names rest)) ∙ ap (λ xs. xs ++ text_symbols names rest) (sym q))
      ∙ sym (append_assoc own (text_symbols names (listed a (listed b []))) (text_symbols names rest))

  -- the texts of symbols that are joined
  pub record Split (fs gs : List ℕ) (values : List (List ℕ)) : Type 0 where
    pub left : List (List ℕ)
    pub right : List (List ℕ)
    pub joined : values ≡ left ++ right
    pub are_left : AreTextsOf names fs left
    pub are_right : AreTextsOf names gs right

  pub texts-split : (fs gs : List ℕ) (values : List (List ℕ)) → AreTextsOf names (fs ++ gs) values → Split fs gs values
  texts-split [] gs values h = record { left = []; right = values; joined = refl; are_left = tt; are_right = h }
  texts-split (f ∷ fs) gs [] h = absurd h
  texts-split (f ∷ fs) gs (v ∷ vs) h =
      let s = texts-split fs gs vs h.1 in
      record { left = v ∷ s.left; right = s.right; joined = ap (λ xs. v ∷ xs) s.joined; are_left = (h.0, s.are_left); are_right = s.are_right }

  pub texts-join : (fs gs : List ℕ) (vs ws : List (List ℕ)) → AreTextsOf names fs vs → AreTextsOf names gs ws → AreTextsOf names (fs ++ gs) (vs ++ ws)
  texts-join [] gs [] ws h k = k
  texts-join [] gs (v ∷ vs) ws h k = absurd h
  texts-join (f ∷ fs) gs [] ws h k = absurd h
  texts-join (f ∷ fs) gs (v ∷ vs) ws h k = (h.0, texts-join fs gs vs ws h.1 k)

  -- the text of a symbol, if its nodes have one, is the value of such a node
  pub record Valued (kind : Kind) (values : List (List ℕ)) : Type 0 where
    pub value : List ℕ
    pub lawful : IsLawfulValue kind value
    pub own_text : values ≡ own kind value

  one-value : (f : ℕ) (kind : Kind) (n : List ℕ) (values : List (List ℕ)) → slice_get names f ≡ Some (kind, n) → AreTextsOf names (f ∷ []) values → (v : List ℕ) × (values ≡ v ∷ []) × IsLawfulValue kind v
  one-value f kind n [] e h = absurd h
  one-value f kind n (v ∷ []) e h = (v, refl, subst (λ p. IsTextOf p v) e h.0)
  one-value f kind n (v ∷ w ∷ vs) e h = absurd h.1

  no-value : (values : List (List ℕ)) → AreTextsOf names [] values → values ≡ []
  no-value [] h = refl
  no-value (v ∷ vs) h = absurd h

  pub valued : (f : ℕ) (kind : Kind) (n : List ℕ) (values : List (List ℕ)) → slice_get names f ≡ Some (kind, n) → AreTextsOf names (if_valued (Some (kind, n)) f) values → Valued kind values
  valued f Document n values e h = record { value = []; lawful = refl; own_text = no-value values h }
  valued f Element n values e h = record { value = []; lawful = refl; own_text = no-value values h }
  valued f Attribute n values e h = let o = one-value f Attribute n values e h in record { value = o.0; lawful = o.2; own_text = o.1 }
  valued f Text n values e h = let o = one-value f Text n values e h in record { value = o.0; lawful = o.2; own_text = o.1 }
  valued f Comment n values e h = let o = one-value f Comment n values e h in record { value = o.0; lawful = o.2; own_text = o.1 }
  valued f Instruction n values e h = let o = one-value f Instruction n values e h in record { value = o.0; lawful = o.2; own_text = o.1 }

  -- ---- kids
  broken-if : (b : Bool) (c : Chain) → (if b then c else Broken) ≢ Broken → (b ≡ true) × (c ≢ Broken)
  broken-if true c h = (refl, h)
  broken-if false c h = absurd (h refl)

  then-same : (b : Bool) (c : Chain) → b ≡ true → (if b then c else Broken) ≡ c
  then-same b c e = rw e refl

  document-is : (ka kb : Chain) → document ka kb ≢ Broken → (ka ≡ Rooted) × (kb ≡ Empty)
  document-is Rooted Empty h = (refl, refl)
  document-is Rooted Broken h = absurd (h refl)
  document-is Rooted Whole h = absurd (h refl)
  document-is Rooted Aside h = absurd (h refl)
  document-is Rooted Rooted h = absurd (h refl)
  document-is Rooted Content h = absurd (h refl)
  document-is Rooted Tagged h = absurd (h refl)
  document-is Broken kb h = absurd (h refl)
  document-is Empty kb h = absurd (h refl)
  document-is Whole kb h = absurd (h refl)
  document-is Aside kb h = absurd (h refl)
  document-is Content kb h = absurd (h refl)
  document-is Tagged kb h = absurd (h refl)

  element-not : (c : Chain) → is_of_element c ≡ true → c ≢ Broken
  element-not c e b = let s : false ≡ true = sym (ap is_of_element b) ∙ e in cc

  empty-not : (c : Chain) → is_empty c ≡ true → c ≢ Broken
  empty-not c e b = let s : false ≡ true = sym (ap is_empty b) ∙ e in cc

  behind-not : (g : Chain → Chain) (c : Chain) → g Broken ≡ Broken → g c ≢ Broken → c ≢ Broken
  behind-not g c e h b = h (ap g b ∙ e)

  -- neither the kids nor what is behind is broken
  pub both : (kind : Kind) (ka kb : Chain) → behind_node (Some kind) ka kb ≢ Broken → (ka ≢ Broken) × (kb ≢ Broken)
  both Document ka kb h =
      let d = document-is ka kb h in
      ((λ b. let s : Rooted ≡ Broken = sym d.0 ∙ b in cc), (λ b. let s : Empty ≡ Broken = sym d.1 ∙ b in cc))
  both Element ka kb h = let i = broken-if (is_of_element ka) (behind_element kb) h in (element-not ka i.0, behind-not behind_element kb refl i.1)
  both Attribute ka kb h = let i = broken-if (is_empty ka) (behind_attribute kb) h in (empty-not ka i.0, behind-not behind_attribute kb refl i.1)
  both Text ka kb h = let i = broken-if (is_empty ka) (behind_text kb) h in (empty-not ka i.0, behind-not behind_text kb refl i.1)
  both Comment ka kb h = let i = broken-if (is_empty ka) (behind_aside kb) h in (empty-not ka i.0, behind-not behind_aside kb refl i.1)
  both Instruction ka kb h = let i = broken-if (is_empty ka) (behind_aside kb) h in (empty-not ka i.0, behind-not behind_aside kb refl i.1)

  -- the node has lawful kids, and with it in front the trees are what the chain says
  pub record Goes (kind : Kind) (n v : List ℕ) (ks ts : Trees) (c : Chain) : Type 0 where
    pub kids : AreKids kind ks
    pub chain : IsChainOf c (more (node kind n v ks) ts)

  pub goes : (kind : Kind) (n v : List ℕ) (ks ts : Trees) (ka kb : Chain) → IsChainOf ka ks → IsChainOf kb ts → (kind ≡ Attribute → ks ≡ none → AreElementKids true ts → IsNew n ts)
      → behind_node (Some kind) ka kb ≢ Broken → Goes kind n v ks ts (behind_node (Some kind) ka kb)
  goes Document n v ks ts ka kb h k new b =
      let d = document-is ka kb b in
      let r = subst (λ c. IsChainOf c ks) d.0 h in
      let t : ts ≡ none = subst (λ c. IsChainOf c ts) d.1 k in
      let w : document ka kb ≡ Whole = rw (d.0, d.1) refl in
      record { kids = r.1; chain = subst (λ c. IsChainOf c (more (node Document n v ks) ts)) (sym w) (node Document n v ks, ap (λ x. more (node Document n v ks) x) t, refl) }
  goes Element n v ks ts ka kb h k new b =
      let i = broken-if (is_of_element ka) (behind_element kb) b in
      record {
        kids = of-element ka ks i.0 h;
        chain = subst (λ c. IsChainOf c (more (node Element n v ks) ts)) (sym (then-same (is_of_element ka) (behind_element kb) i.0)) (before-element kb ts n v ks k i.1);
      }
  goes Attribute n v ks ts ka kb h k new b =
      let i = broken-if (is_empty ka) (behind_attribute kb) b in
      let s : ks ≡ none = none-empty ka ks i.0 h in
      record {
        kids = s;
        chain = subst (λ c. IsChainOf c (more (node Attribute n v ks) ts)) (sym (then-same (is_empty ka) (behind_attribute kb) i.0))
            (subst (λ x. IsChainOf (behind_attribute kb) (more (node Attribute n v x) ts)) (sym s) (before-attribute kb ts n v k i.1 (new refl s (of-element kb ts (behind-attribute kb i.1) k))));
      }
  goes Text n v ks ts ka kb h k new b =
      let i = broken-if (is_empty ka) (behind_text kb) b in
      let s : ks ≡ none = none-empty ka ks i.0 h in
      record {
        kids = s;
        chain = subst (λ c. IsChainOf c (more (node Text n v ks) ts)) (sym (then-same (is_empty ka) (behind_text kb) i.0))
            (subst (λ x. IsChainOf (behind_text kb) (more (node Text n v x) ts)) (sym s) (before-text kb ts n v k i.1));
      }
  goes Comment n v ks ts ka kb h k new b =
      let i = broken-if (is_empty ka) (behind_aside kb) b in
      let s : ks ≡ none = none-empty ka ks i.0 h in
      record {
        kids = s;
        chain = subst (λ c. IsChainOf c (more (node Comment n v ks) ts)) (sym (then-same (is_empty ka) (behind_aside kb) i.0))
            (subst (λ x. IsChainOf (behind_aside kb) (more (node Comment n v x) ts)) (sym s) (before-comment kb ts n v k i.1));
      }
  goes Instruction n v ks ts ka kb h k new b =
      let i = broken-if (is_empty ka) (behind_aside kb) b in
      let s : ks ≡ none = none-empty ka ks i.0 h in
      record {
        kids = s;
        chain = subst (λ c. IsChainOf c (more (node Instruction n v ks) ts)) (sym (then-same (is_empty ka) (behind_aside kb) i.0))
            (subst (λ x. IsChainOf (behind_aside kb) (more (node Instruction n v x) ts)) (sym s) (before-instruction kb ts n v k i.1));
      }

  -- ---- the trees
  pub node-chain : (f : ℕ) (a b : Term) → chain_of names (Node f a b) ≡ behind_node (kind_in (slice_get names f)) (chain_of names a) (chain_of names b)
  node-chain f a b = ap (λ k. behind_node k (chain_of names a) (chain_of names b)) (slice_get-map (λ pair. pair.0) names f)

  pub record Decoded (term : Term) (values : List (List ℕ)) (c : Chain) : Type 0 where
    pub trees : Trees
    pub code : Codes names trees term
    pub lawful : AreLawfulTrees trees
    pub chain : IsChainOf c trees
    pub own_texts : texts_all trees ≡ values

  module _ (one : AreDistinct names) (named : (i : ℕ) (kind : Kind) (name : List ℕ) → slice_get names i ≡ Some (kind, name) → IsLawfulName kind name) where
    node-decoded : (f : ℕ) (a b : Term) (values : List (List ℕ)) (p : Option (Kind × List ℕ)) → slice_get names f ≡ p
        → AreTextsOf names (if_valued p f ++ text_symbols names (listed a (listed b []))) values → AreUnlike names (mark_at p f ++ marks names (listed a (listed b []))) → behind_node (kind_in p) (chain_of names a) (chain_of names b) ≢ Broken
        → ((vs : List (List ℕ)) → AreTextsOf names (text_symbols names (listed a [])) vs → AreUnlike names (marks names (listed a [])) → chain_of names a ≢ Broken → Decoded a vs (chain_of names a))
        → ((vs : List (List ℕ)) → AreTextsOf names (text_symbols names (listed b [])) vs → AreUnlike names (marks names (listed b [])) → chain_of names b ≢ Broken → Decoded b vs (chain_of names b))
        → Decoded (Node f a b) values (behind_node (kind_in p) (chain_of names a) (chain_of names b))
    node-decoded f a b values None s h u w below behind = absurd (w refl)
    node-decoded f a b values (Some (kind, n)) s h u w below behind =
        let first = texts-split (if_valued (Some (kind, n)) f) (text_symbols names (listed a (listed b []))) values h in
        let second = texts-split (text_symbols names (listed a [])) (text_symbols names (listed b [])) first.right (subst (λ fs. AreTextsOf names fs first.right) (symbols-listed a (listed b [])) first.are_right) in
        let val = valued f kind n first.left s first.are_left in
        let sound = both kind (chain_of names a) (chain_of names b) w in
        let inner : AreUnlike names (marks names (listed a []) ++ marks names (listed b [])) = subst (AreUnlike names) (marks-listed names a (listed b [])) (unlike-right names (mark_at (Some (kind, n)) f) (marks names (listed a (listed b []))) u) in
        let da = below second.left second.are_left (unlike-left names (marks names (listed a [])) (marks names (listed b [])) inner) sound.0 in
        let db = behind second.right second.are_right (unlike-right names (marks names (listed a [])) (marks names (listed b [])) inner) sound.1 in
        let new : kind ≡ Attribute → da.trees ≡ none → AreElementKids true db.trees → IsNew n db.trees = λ is bare kids. new-first names one f kind n s is da.trees db.trees a b bare da.code db.code kids db.lawful u in
        let go = goes kind n val.value da.trees db.trees (chain_of names a) (chain_of names b) da.chain db.chain new w in
        record {
          trees = more (node kind n val.value da.trees) db.trees;
          code = (f, a, b, s, da.code, db.code, refl);
          lawful = (((named f kind n s, val.lawful), go.kids, da.lawful), db.lawful);
          chain = go.chain;
          own_texts = texts_all-more kind n val.value da.trees db.trees ∙ ap (λ x. own kind val.value ++ (x ++ texts_all db.trees)) da.own_texts ∙ ap (λ x. own kind val.value ++ (second.left ++ x)) db.own_texts
              ∙ ap (λ x. x ++ (second.left ++ second.right)) (sym val.own_text) ∙ ap (λ x. first.left ++ x) (sym second.joined) ∙ sym first.joined;
        }

    pub decoded : (term : Term) (values : List (List ℕ)) → holes_of term ≡ [] → AreTextsOf names (text_symbols names (listed term [])) values → AreUnlike names (marks names (listed term [])) → chain_of names term ≢ Broken → Decoded term values (chain_of names term)
    decoded Leaf values e h u b = record { trees = none; code = refl; lawful = tt; chain = refl; own_texts = sym (no-value values h) }
    decoded (Hole i) values e h u b = cc
    decoded (Node f a b) values e h u w =
        let closed = append-empty (holes_of a) (holes_of b) e in
        let same = node-chain f a b in
        let d = node-decoded f a b values (slice_get names f) refl h u (λ broken. w (same ∙ broken)) (λ vs t k s. decoded a vs closed.0 t k s) (λ vs t k s. decoded b vs closed.1 t k s) in
        subst (Decoded (Node f a b) values) (sym same) d
