-- Edits of small documents, written out.
use Rattle.std.proofs.Common.{◌≡◌, ℕ, List, [], ◌∷◌, Bool, true, false, refl, arith}
use Rattle.std.specs.Prelude.{codes, ◌&&◌}
use Rattle.std.proofs.lemmas.Bool.{false≢true}
use Rattle.plain_tree.specs.XmlNames.{is_name}
use Rattle.plain_tree.specs.declared.kind.Kind.TheVariants.{Document, Element, Attribute, Text, Comment, Instruction}
use Rattle.plain_tree.specs.Tree.{Tree, node, none, trees, node_count}
use Rattle.plain_tree.specs.Edits.{placed, edited, merged}
use Rattle.plain_tree.specs.Allowed.{IsAllowed}
use Rattle.plain_tree.specs.declared.edit.Edit.{Edit}
use Rattle.plain_tree.specs.declared.edit.Edit.TheVariants.{Rename, Insert, Append, Delete, Value, Attr, Copy}

abbrev doc : List Tree → Tree
doc ts = node Document [] [] (trees ts)

abbrev el : List ℕ → List Tree → Tree
el name ts = node Element name [] (trees ts)

abbrev text : List ℕ → Tree
text v = node Text [] v none

abbrev attr : List ℕ → List ℕ → Tree
attr name v = node Attribute name v none

abbrev comment : List ℕ → Tree
comment v = node Comment [] v none

abbrev NotAllowed : Tree → Edit → Type 0
NotAllowed t e = IsAllowed t e → ⊥

-- `<a>x<b/>y</a>`
abbrev xby : Tree
xby = doc (el (codes "a") (text (codes "x") ∷ el (codes "b") [] ∷ text (codes "y") ∷ []) ∷ [])

delete-joins : edited xby (Delete 3) ≡ doc (el (codes "a") (text (codes "xy") ∷ []) ∷ [])
delete-joins = refl

delete-apart : placed xby (Delete 3) ≡ doc (el (codes "a") (text (codes "x") ∷ text (codes "y") ∷ []) ∷ [])
delete-apart = refl

one-merged : merged xby (Delete 3) ≡ 1
one-merged = refl

-- and one edit after another
abbrev second : Tree
second = edited xby (Insert 3 (text (codes "z") ∷ []))

abbrev third : Tree
third = edited second (Append 1 (text (codes "w") ∷ []))

abbrev fourth : Tree
fourth = edited third (Copy 2)

abbrev fifth : Tree
fifth = edited fourth (Insert 4 (el (codes "c") [] ∷ text (codes "q") ∷ []))

insert-joins : node_count second ≡ 5
insert-joins = refl

append-joins : node_count third ≡ 5
append-joins = refl

copy-joins : node_count fourth ≡ 5
copy-joins = refl

in-the-end : fifth ≡ doc (el (codes "a") (text (codes "xzxz") ∷ el (codes "b") [] ∷ el (codes "c") [] ∷ text (codes "qyw") ∷ []) ∷ [])
in-the-end = refl

-- two seams that share a text
three-in-one : edited (doc (el (codes "a") (text (codes "x") ∷ text (codes "z") ∷ []) ∷ [])) (Insert 3 (text (codes "y") ∷ [])) ≡ doc (el (codes "a") (text (codes "xyz") ∷ []) ∷ [])
three-in-one = refl

two-merged : merged (doc (el (codes "a") (text (codes "x") ∷ text (codes "z") ∷ []) ∷ [])) (Insert 3 (text (codes "y") ∷ [])) ≡ 2
two-merged = refl

-- texts that were neighbours stay apart
value-apart : edited (doc (el (codes "a") (text (codes "x") ∷ text (codes "z") ∷ []) ∷ [])) (Value 3 (codes "y")) ≡ doc (el (codes "a") (text (codes "x") ∷ text (codes "y") ∷ []) ∷ [])
value-apart = refl

-- `<!--p--><a>t</a>`
abbrev pat : Tree
pat = doc (comment (codes "p") ∷ el (codes "a") (text (codes "t") ∷ []) ∷ [])

no-delete : NotAllowed pat (Delete 2)
no-delete = λ h. h refl refl

no-value : NotAllowed pat (Value 3 [])
no-value = λ h. h.1 refl

no-element-value : NotAllowed pat (Value 2 (codes "x"))
no-element-value = λ h. h

no-text-name : NotAllowed pat (Rename 3 (codes "x"))
no-text-name = λ h. h

no-node : NotAllowed pat (Value 4 (codes "x"))
no-node = λ h. h

no-second-root : NotAllowed pat (Insert 2 (el (codes "b") [] ∷ []))
no-second-root = λ h. h.1

aside : IsAllowed pat (Insert 2 (comment (codes "q") ∷ []))
aside = ((λ e. cc), tt)

abbrev pqat : Tree
pqat = edited pat (Insert 2 (comment (codes "q") ∷ []))

abbrev pqatgo : Tree
pqatgo = edited pqat (Append 0 (node Instruction (codes "go") (codes "now") none ∷ []))

never : (b : Bool) → (b && false) ≡ true → ⊥
never true e = absurd (false≢true e)
never false e = absurd (false≢true e)

no-target : NotAllowed pqatgo (Rename 5 (codes "xml"))
no-target = λ h. never (is_name (codes "xml")) h

attributed : edited pqatgo (Attr 3 (codes "k") (codes "1"))
    ≡ doc (comment (codes "p") ∷ comment (codes "q") ∷ el (codes "a") (attr (codes "k") (codes "1") ∷ text (codes "t") ∷ []) ∷ node Instruction (codes "go") (codes "now") none ∷ [])
attributed = refl

-- `<a x="1" y="2"/>`
abbrev axy : Tree
axy = doc (el (codes "a") (attr (codes "x") (codes "1") ∷ attr (codes "y") (codes "2") ∷ []) ∷ [])

no-twice : NotAllowed axy (Rename 2 (codes "y"))
no-twice = λ h. h.1.0 refl refl

the-same : IsAllowed axy (Rename 2 (codes "x"))
the-same = (tt, ((λ e f. absurd (other f)), tt))
  where
    other : codes "x" ≡ codes "y" → ⊥
    other f = absurd (let one : ℕ = 120 in let other : ℕ = 121 in let g : one ≡ other = cc in omega (arith, g))

reset : edited axy (Attr 1 (codes "y") (13 ∷ [])) ≡ doc (el (codes "a") (attr (codes "x") (codes "1") ∷ attr (codes "y") (13 ∷ []) ∷ []) ∷ [])
reset = refl

behind-attributes : edited axy (Attr 1 (codes "z") []) ≡ doc (el (codes "a") (attr (codes "x") (codes "1") ∷ attr (codes "y") (codes "2") ∷ attr (codes "z") [] ∷ []) ∷ [])
behind-attributes = refl

no-insert : NotAllowed axy (Insert 2 (text (codes "t") ∷ []))
no-insert = λ h. h.0 refl

no-append : NotAllowed axy (Append 2 (text (codes "t") ∷ []))
no-append = λ h. h

no-copy : NotAllowed axy (Copy 2)
no-copy = λ h. h.0 refl

no-root-copy : NotAllowed axy (Copy 1)
no-root-copy = λ h. h.1 refl refl

-- `<a><b>t</b></a>`
abbrev abt : Tree
abt = doc (el (codes "a") (el (codes "b") (text (codes "t") ∷ []) ∷ []) ∷ [])

copied : edited abt (Copy 2) ≡ doc (el (codes "a") (el (codes "b") (text (codes "t") ∷ []) ∷ el (codes "b") (text (codes "t") ∷ []) ∷ []) ∷ [])
copied = refl
