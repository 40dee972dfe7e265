-- What a chain says of trees, and how it goes on to the trees with a node before them.
use Rattle.std.proofs.Common.{◌≡◌, ◌≢◌, ℕ, true, false, List, refl, sym, subst}
use Rattle.plain_tree.specs.declared.kind.Kind.TheVariants.{Document, Element, Attribute, Text, Comment, Instruction}
use Rattle.plain_tree.specs.Tree.{Tree, node, Trees, none, more}
use Rattle.plain_tree.specs.Lawful.{IsOfKind, IsNew, AreElementKids, AreDocumentKids}
use Rattle.grammar_file.specs.declared.chains.Chain.{Chain}
use Rattle.grammar_file.specs.declared.chains.Chain.TheVariants.{Broken, Empty, Whole, Aside, Rooted, Content, Tagged}
use Rattle.grammar_file.specs.Chains.{is_empty, is_of_element, behind_element, behind_text, behind_aside, behind_attribute}

pub true-false : true ≡ false → ⊥
true-false e = cc

pub false-true : false ≡ true → ⊥
false-true e = cc

-- ---- lists of kids
pub tagged-kids : (ts : Trees) → AreElementKids false ts → AreElementKids true ts
tagged-kids none h = tt
tagged-kids (more (node Document n v ks) ts) h = h
tagged-kids (more (node Element n v ks) ts) h = h
tagged-kids (more (node Attribute n v ks) ts) h = absurd (false-true h.0)
tagged-kids (more (node Text n v ks) ts) h = h
tagged-kids (more (node Comment n v ks) ts) h = h
tagged-kids (more (node Instruction n v ks) ts) h = h

-- where there is no attribute each name is new
pub new-among : (name : List ℕ) (ts : Trees) → AreElementKids false ts → IsNew name ts
new-among name none h = tt
new-among name (more (node Document n v ks) ts) h = absurd h
new-among name (more (node Element n v ks) ts) h = (λ e. cc, new-among name ts h)
new-among name (more (node Attribute n v ks) ts) h = absurd (false-true h.0)
new-among name (more (node Text n v ks) ts) h = (λ e. cc, new-among name ts h)
new-among name (more (node Comment n v ks) ts) h = (λ e. cc, new-among name ts h)
new-among name (more (node Instruction n v ks) ts) h = (λ e. cc, new-among name ts h)

-- what a chain says of trees
abbrev pub IsChainOf : Chain → Trees → Type 0
IsChainOf Broken ts = ⊥
IsChainOf Empty ts = ts ≡ none
IsChainOf Whole ts = (t : Tree) × (ts ≡ more t none) × IsOfKind Document t
IsChainOf Aside ts = AreElementKids false ts × AreDocumentKids true ts
IsChainOf Rooted ts = AreElementKids false ts × AreDocumentKids false ts
IsChainOf Content ts = AreElementKids false ts
IsChainOf Tagged ts = AreElementKids true ts

pub none-empty : (c : Chain) (ts : Trees) → is_empty c ≡ true → IsChainOf c ts → ts ≡ none
none-empty Empty ts e h = h
none-empty Broken ts e h = absurd h
none-empty Whole ts e h = absurd (false-true e)
none-empty Aside ts e h = absurd (false-true e)
none-empty Rooted ts e h = absurd (false-true e)
none-empty Content ts e h = absurd (false-true e)
none-empty Tagged ts e h = absurd (false-true e)

pub of-element : (c : Chain) (ts : Trees) → is_of_element c ≡ true → IsChainOf c ts → AreElementKids true ts
of-element Broken ts e h = absurd h
of-element Empty ts e h = subst (AreElementKids true) (sym h) tt
of-element Whole ts e h = absurd (false-true e)
of-element Aside ts e h = tagged-kids ts h.0
of-element Rooted ts e h = tagged-kids ts h.0
of-element Content ts e h = tagged-kids ts h
of-element Tagged ts e h = h

pub before-element : (c : Chain) (ts : Trees) (n v : List ℕ) (ks : Trees) → IsChainOf c ts → behind_element c ≢ Broken → IsChainOf (behind_element c) (more (node Element n v ks) ts)
before-element Broken ts n v ks h b = absurd h
before-element Empty ts n v ks h b = subst (λ x. IsChainOf Rooted (more (node Element n v ks) x)) (sym h) (tt, (refl, refl))
before-element Whole ts n v ks h b = absurd (b refl)
before-element Aside ts n v ks h b = (h.0, (refl, h.1))
before-element Rooted ts n v ks h b = h.0
before-element Content ts n v ks h b = h
before-element Tagged ts n v ks h b = absurd (b refl)

pub before-text : (c : Chain) (ts : Trees) (n v : List ℕ) → IsChainOf c ts → behind_text c ≢ Broken → IsChainOf (behind_text c) (more (node Text n v none) ts)
before-text Broken ts n v h b = absurd h
before-text Empty ts n v h b = subst (λ x. IsChainOf Content (more (node Text n v none) x)) (sym h) tt
before-text Whole ts n v h b = absurd (b refl)
before-text Aside ts n v h b = h.0
before-text Rooted ts n v h b = h.0
before-text Content ts n v h b = h
before-text Tagged ts n v h b = absurd (b refl)

pub before-comment : (c : Chain) (ts : Trees) (n v : List ℕ) → IsChainOf c ts → behind_aside c ≢ Broken → IsChainOf (behind_aside c) (more (node Comment n v none) ts)
before-comment Broken ts n v h b = absurd h
before-comment Empty ts n v h b = subst (λ x. IsChainOf Aside (more (node Comment n v none) x)) (sym h) (tt, refl)
before-comment Whole ts n v h b = absurd (b refl)
before-comment Aside ts n v h b = h
before-comment Rooted ts n v h b = h
before-comment Content ts n v h b = h
before-comment Tagged ts n v h b = absurd (b refl)

pub before-instruction : (c : Chain) (ts : Trees) (n v : List ℕ) → IsChainOf c ts → behind_aside c ≢ Broken → IsChainOf (behind_aside c) (more (node Instruction n v none) ts)
before-instruction Broken ts n v h b = absurd h
before-instruction Empty ts n v h b = subst (λ x. IsChainOf Aside (more (node Instruction n v none) x)) (sym h) (tt, refl)
before-instruction Whole ts n v h b = absurd (b refl)
before-instruction Aside ts n v h b = h
before-instruction Rooted ts n v h b = h
before-instruction Content ts n v h b = h
before-instruction Tagged ts n v h b = absurd (b refl)

-- an attribute of a new name
pub before-attribute : (c : Chain) (ts : Trees) (n v : List ℕ) → IsChainOf c ts → behind_attribute c ≢ Broken → IsNew n ts → IsChainOf (behind_attribute c) (more (node Attribute n v none) ts)
before-attribute Broken ts n v h b new = absurd h
before-attribute Empty ts n v h b new = (refl, new, subst (AreElementKids true) (sym h) tt)
before-attribute Whole ts n v h b new = absurd (b refl)
before-attribute Aside ts n v h b new = (refl, new, tagged-kids ts h.0)
before-attribute Rooted ts n v h b new = (refl, new, tagged-kids ts h.0)
before-attribute Content ts n v h b new = (refl, new, tagged-kids ts h)
before-attribute Tagged ts n v h b new = (refl, new, h)

-- what has an attribute before it are kids of an element
pub behind-attribute : (c : Chain) → behind_attribute c ≢ Broken → is_of_element c ≡ true
behind-attribute Broken b = absurd (b refl)
behind-attribute Empty b = refl
behind-attribute Whole b = absurd (b refl)
behind-attribute Aside b = refl
behind-attribute Rooted b = refl
behind-attribute Content b = refl
behind-attribute Tagged b = refl
