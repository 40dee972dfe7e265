-- Terms lie in slots in one way alone: what the toolchain asks of the ghost field by which an arena is seen.
use Rattle.std.specs.Prelude.{◌≡◌, ℕ, zero, suc, List, Option, Some, None, refl}
use Rattle.std.proofs.Common.{sym, ◌∙◌, subst, ap}
use Rattle.std.specs.Coded.{×_prop, Unit-prop, Π_prop, Coded, Coded-set, code_by, coded_ℕ, coded_list, coded_option, coded×}
use Rattle.slab.specs.Slab.{Slab, get}
use Rattle.rule_arena.specs.declared.label.Label.{Label}
use Rattle.rule_arena.specs.declared.label.Label.TheVariants.{Bottom, Symbol, Call, Param}
use Rattle.rule_arena.specs.declared.key.Key.{Key}
use Rattle.rule_arena.specs.Linked.{Cell}
use Rattle.rule_arena.specs.Siblings.{Tied, parent_at}
use Rattle.rule_arena.specs.Slots.{Forest, End, Grow, tops, Lies, RootHas, Stands, Standing}

-- one forest lies under a node with these children
pub Lies-unique : (H : ℕ → Option Cell) (up : Key) (i : ℕ) (f g : Forest) → tops f ≡ tops g → Lies H up i f → Lies H up i g → f ≡ g
Lies-unique H up i End End e a b = refl
Lies-unique H up i End (Grow k l f g) e a b = cc
Lies-unique H up i (Grow k l f g) End e a b = cc
Lies-unique H up i (Grow k l f1 f2) (Grow m n g1 g2) e a b =
    let ek : k ≡ m = cc in
    let et : tops f2 ≡ tops g2 = cc in
    let u : Cell = record { label = l; parent = Some (up, i); kids = tops f1 } in
    let v : Cell = record { label = n; parent = Some (up, i); kids = tops g1 } in
    let b0 : H k.number ≡ Some v = rw ek b.0 in
    let w : u ≡ v = one_cell u v (sym a.0 ∙ b0) in
    let b1 : Lies H k 1 g1 = rw ek b.1 in
    let h1 : f1 ≡ g1 = Lies-unique H k 1 f1 g1 (ap (λ (c : Cell). c.kids) w) a.1 b1 in
    let h2 : f2 ≡ g2 = Lies-unique H up (suc i) f2 g2 et a.2 b.2 in
    grown k m l n f1 g1 f2 g2 ek (ap (λ (c : Cell). c.label) w) h1 h2
  where
    one_cell : (c d : Cell) → Some c ≡ Some d → c ≡ d
    one_cell c d e = cc

    grown : (k m : Key) (l n : Label) (f1 g1 f2 g2 : Forest) → k ≡ m → l ≡ n → f1 ≡ g1 → f2 ≡ g2 → Grow k l f1 f2 ≡ Grow m n g1 g2
    grown k m l n f1 g1 f2 g2 a b c d = cc

key_code : Coded Key
key_code = code_by ℕ coded_ℕ (λ (k : Key). k.number) (λ n. record { number = n }) (λ _. refl)

label_number : Label → ℕ × ℕ
label_number Bottom = (0, 0)
label_number (Symbol f) = (1, f)
label_number (Call f) = (2, f)
label_number Param = (3, 0)

label_from : ℕ → ℕ → Label
label_from zero f = Bottom
label_from (suc zero) f = Symbol f
label_from (suc (suc zero)) f = Call f
label_from (suc (suc (suc n))) f = Param

label_back : (l : Label) → label_from (label_number l).0 (label_number l).1 ≡ l
unfolding label_number label_from
label_back Bottom = refl
label_back (Symbol f) = refl
label_back (Call f) = refl
label_back Param = refl

label_code : Coded Label
label_code = code_by (ℕ × ℕ) (coded× coded_ℕ coded_ℕ) label_number (λ p. label_from p.0 p.1) label_back

cell_code : Coded Cell
cell_code =
    code_by (Label × (Option (Key × ℕ) × List Key)) (coded× label_code (coded× (coded_option (coded× key_code coded_ℕ)) (coded_list key_code)))
    (λ (c : Cell). (c.label, (c.parent, c.kids))) (λ p. record { label = p.0; parent = p.1.0; kids = p.1.1 }) (λ _. refl)

cells : (a b : Option Cell) → IsProp (a ≡ b)
cells a b = Coded-set (coded_option cell_code) a b

keys : (a b : List Key) → IsProp (a ≡ b)
keys a b = Coded-set (coded_list key_code) a b

pub Lies-prop : (H : ℕ → Option Cell) (up : Key) (i : ℕ) (f : Forest) → IsProp (Lies H up i f)
Lies-prop H up i End = Unit-prop
Lies-prop H up i (Grow k l f g) =
    let a = Lies-prop H k 1 f in
    let b = Lies-prop H up (suc i) g in
    let c = cells (H k.number) (Some (record { label = l; parent = Some (up, i); kids = tops f })) in
    λ x y. triple x.0 y.0 x.1 y.1 x.2 y.2 (c x.0 y.0) (a x.1 y.1) (b x.2 y.2)
  where
    triple : {A B C : Type 0} (a a2 : A) (b b2 : B) (c c2 : C) → a ≡ a2 → b ≡ b2 → c ≡ c2 → let T : Type 0 = A × B × C in let l : T = (a, b, c) in let r : T = (a2, b2, c2) in l ≡ r
    triple {A} {B} {C} a a2 b b2 c c2 e1 e2 e3 =
        let T : Type 0 = A × B × C in
        let l : T = (a, b, c) in
        subst (λ (x : A). let r : T = (x, b2, c2) in l ≡ r) e1
        (subst (λ (x : B). let r : T = (a, x, c2) in l ≡ r) e2 (subst (λ (x : C). let r : T = (a, b, x) in l ≡ r) e3 refl))

pairs : {A : Type 0} (P : A → Type 0) → ((a : A) → IsProp (P a)) → (a b : A) (e : a ≡ b) (p : P a) (q : P b) → let Q : Type 0 = (x : A) × P x in let l : Q = (a, p) in let r : Q = (b, q) in l ≡ r
pairs {A} P props a b e =
    let Q : Type 0 = (x : A) × P x in
    subst (λ (y : A). (p : P a) (q : P y) → let l : Q = (a, p) in let r : Q = (y, q) in l ≡ r) e
    (λ p q. let l : Q = (a, p) in subst (λ (z : P a). let r : Q = (a, z) in l ≡ r) (props a p q) refl)

RootHas-prop : (H : ℕ → Option Cell) (k : ℕ) (c : Cell) (o : Option (Key × ℕ)) → IsProp (RootHas H k c o)
RootHas-prop H k c (Some _) = Unit-prop
RootHas-prop H k c None =
    λ x y.
    let F : Forest → Type 0 = λ f. (tops f ≡ c.kids) × Lies H (record { number = k }) 1 f in
    pairs F (λ f. ×_prop (keys (tops f) c.kids) (Lies-prop H (record { number = k }) 1 f)) x.0 y.0
    (Lies-unique H (record { number = k }) 1 x.0 y.0 (x.1.0 ∙ sym y.1.0) x.1.1 y.1.1) x.1 y.1

Stands-prop : (H : ℕ → Option Cell) (k : ℕ) (o : Option Cell) → IsProp (Stands H k o)
Stands-prop H k None = Unit-prop
Stands-prop H k (Some c) = RootHas-prop H k c c.parent

pub Standing-prop : (slots : Slab Cell) → IsProp (Standing slots)
Standing-prop slots = Π_prop (λ k. Stands-prop (get slots) k (get slots k))

link_code : Coded (Option (Key × ℕ))
link_code = coded_option (coded× key_code coded_ℕ)

pub Tied-prop : (slots : Slab Cell) → IsProp (Tied slots)
Tied-prop slots =
    Π_prop (λ n. Π_prop (λ c. Π_prop (λ i. Π_prop (λ k. Π_prop (λ e. Π_prop (λ f. Coded-set link_code (parent_at (get slots k.number)) (Some (record { number = n }, suc i))))))))
