-- One call more of what a builder of trees has built.
use Rattle.std.proofs.Common.{◌≡◌, ℕ, ◌+◌, true, false, List, [], ◌∷◌, ◌++◌, length, refl, ap, sym, ◌∙◌, subst, append_assoc, arith}
use Rattle.std.specs.Prelude.{Result, Ok, Err, IfOk}
use Rattle.std.specs.List.{AllByRecursion}
use Rattle.plain_tree.specs.declared.kind.Kind.{Kind}
use Rattle.plain_tree.specs.declared.kind.Kind.TheVariants as kind
use Rattle.plain_tree.specs.declared.nodes.Node.{Node}
use Rattle.plain_tree.specs.NodeTree.{tree_of}
use Rattle.plain_tree.specs.Numbers.{has_value}
use Rattle.plain_tree.specs.Tree.{Tree, node, Trees, none, more, trees}
use Rattle.xml_nodes.proofs.One.{all-inj, parts_shaped}
use Rattle.xml_nodes.proofs.Trees.{all-next}
use Rattle.xml_nodes.specs.Content.{kids_of}
use Rattle.xml_nodes.specs.Machine.{Event, Opened, Leaf, Closed, events, events_all, IsShaped, AreShaped}
use Rattle.xml_nodes.specs.Spelling.{Spells}
use Rattle.xml_profile.specs.declared.tree_builder.OpenElement.{OpenElement}
use Rattle.xml_profile.specs.Building.{frames_log, built_log, AreBuilt}

all_split : (ts : Trees) (x y : List Event) → events_all ts (x ++ y) ≡ events_all ts x ++ y
all_split ts x y = all-next ts (x ++ y) ∙ sym (ap (λ z. z ++ y) (all-next ts x) ∙ append_assoc (events_all ts []) x y)

frames_split : (fs : List OpenElement) (x y : List Event) → frames_log fs (x ++ y) ≡ frames_log fs x ++ y
frames_split [] x y = refl
frames_split (f ∷ fs) x y = ap (λ z. events_all (trees f.kids) (Opened f.name ∷ z)) (frames_split fs x y) ∙ all_split (trees f.kids) (Opened f.name ∷ frames_log fs x) y

frames_more : (fs : List OpenElement) (f : OpenElement) (rest : List Event) → frames_log (fs ++ f ∷ []) rest ≡ frames_log fs (events_all (trees f.kids) (Opened f.name ∷ rest))
frames_more [] f rest = refl
frames_more (g ∷ fs) f rest = ap (λ z. events_all (trees g.kids) (Opened g.name ∷ z)) (frames_more fs f rest)

kids_more : (xs : List Tree) (t : Tree) (next : List Event) → events_all (trees (xs ++ t ∷ [])) next ≡ events_all (trees xs) (events t next)
kids_more [] t next = refl
kids_more (x ∷ xs) t next = ap (λ z. events x z) (kids_more xs t next)

shaped_more : (xs : List Tree) (t : Tree) → AreShaped (trees xs) → IsShaped t → AreShaped (trees (xs ++ t ∷ []))
shaped_more [] t a i = (i, tt)
shaped_more (x ∷ xs) t a i = (a.0, shaped_more xs t a.1 i)

all_front : (fs : List OpenElement) (f : OpenElement) → AllByRecursion (λ g. AreShaped (trees g.kids)) (fs ++ f ∷ []) → AllByRecursion (λ g. AreShaped (trees g.kids)) fs × AreShaped (trees f.kids)
all_front [] f a = (tt, a.0)
all_front (g ∷ fs) f a = let below = all_front fs f a.1 in ((a.0, below.0), below.1)

leaf_shaped : (k : Kind) (n v : List ℕ) → has_value k ≡ true → IsShaped (node k n v none)
leaf_shaped kind.Attribute n v e = refl
leaf_shaped kind.Text n v e = refl
leaf_shaped kind.Comment n v e = refl
leaf_shaped kind.Instruction n v e = refl
leaf_shaped kind.Document n v e = cc
leaf_shaped kind.Element n v e = cc

leaf_events : (k : Kind) (n v : List ℕ) → has_value k ≡ true → events (node k n v none) [] ≡ Leaf k n v ∷ []
leaf_events kind.Attribute n v e = refl
leaf_events kind.Text n v e = refl
leaf_events kind.Comment n v e = refl
leaf_events kind.Instruction n v e = refl
leaf_events kind.Document n v e = cc
leaf_events kind.Element n v e = cc

-- an element more is open
pub opened_log : (outer : List OpenElement) (f : OpenElement) → built_log (outer ++ f ∷ []) [] ≡ built_log outer f.kids ++ Opened f.name ∷ []
opened_log outer f =
    frames_more outer f [] ∙ ap (λ z. frames_log outer z) (all-next (trees f.kids) (Opened f.name ∷ []))
    ∙ frames_split outer (events_all (trees f.kids) []) (Opened f.name ∷ [])

node_log : (outer : List OpenElement) (kids : List Tree) (t : Tree) → built_log outer (kids ++ t ∷ []) ≡ built_log outer kids ++ events t []
node_log outer kids t =
    ap (λ z. frames_log outer z) (kids_more kids t [] ∙ all-next (trees kids) (events t [])) ∙ frames_split outer (events_all (trees kids) []) (events t [])

-- a leaf more
module _ (outer : List OpenElement) (kids new : List Tree) (k : Kind) (n v : List ℕ) (t : Tree) (leaf : has_value k ≡ true) (is : t ≡ node k n v none) (pushed : new ≡ kids ++ t ∷ []) where
  new_kids : new ≡ kids ++ node k n v none ∷ []
  new_kids = pushed ∙ ap (λ z. kids ++ z ∷ []) is

  pub leaf_log : built_log outer new ≡ built_log outer kids ++ Leaf k n v ∷ []
  leaf_log =
      ap (λ z. built_log outer z) new_kids ∙ node_log outer kids (node k n v none) ∙ ap (λ z. built_log outer kids ++ z) (leaf_events k n v leaf)

  pub leaf_built : AreBuilt outer kids → AreBuilt outer new
  leaf_built b = record {
    before = b.before;
    inside = subst (λ z. AreShaped (trees z)) (sym new_kids) (shaped_more kids (node k n v none) b.inside (leaf_shaped k n v leaf));
  }

-- the element that was opened last is closed
module _ (outer fs : List OpenElement) (f : OpenElement) (kids new : List Tree) (t : Tree) (popped : outer ≡ fs ++ f ∷ []) (is : t ≡ node kind.Element f.name [] (trees kids))
    (pushed : new ≡ f.kids ++ t ∷ []) where
  with_element : new ≡ f.kids ++ node kind.Element f.name [] (trees kids) ∷ []
  with_element = pushed ∙ ap (λ z. f.kids ++ z ∷ []) is

  pub closed_log : built_log fs new ≡ built_log outer kids ++ Closed ∷ []
  closed_log =
      ap (λ z. built_log fs z) with_element ∙ ap (λ z. frames_log fs z) (kids_more f.kids (node kind.Element f.name [] (trees kids)) [])
      ∙ ap (λ z. frames_log fs (events_all (trees f.kids) (Opened f.name ∷ z))) (all-next (trees kids) (Closed ∷ []))
      ∙ ap (λ z. frames_log fs z) (all_split (trees f.kids) (Opened f.name ∷ events_all (trees kids) []) (Closed ∷ []))
      ∙ frames_split fs (events_all (trees f.kids) (Opened f.name ∷ events_all (trees kids) [])) (Closed ∷ [])
      ∙ ap (λ z. z ++ Closed ∷ []) (sym (frames_more fs f (events_all (trees kids) [])) ∙ ap (λ z. frames_log z (events_all (trees kids) [])) (sym popped))

  pub closed_built : AreBuilt outer kids → AreBuilt fs new
  closed_built b =
      let own = all_front fs f (subst (λ z. AllByRecursion (λ g. AreShaped (trees g.kids)) z) popped b.before) in
      record {
        before = own.0;
        inside = subst (λ z. AreShaped (trees z)) (sym with_element) (shaped_more f.kids (node kind.Element f.name [] (trees kids)) own.1 (refl, b.inside));
      }

only_kids : (kids ks : Trees) → AreShaped kids → AreShaped ks → events_all kids [] ≡ events_all ks [] → kids ≡ ks
only_kids kids ks a b e = (all-inj kids ks [] [] a b tt tt e).0

none_open : (outer : List OpenElement) → length outer ≡ 0 → outer ≡ []
none_open [] e = refl
none_open (f ∷ fs) e = absurd (omega arith)

-- where no element is open, the calls of a document that bytes spell have made its nodes
pub document_built : {E : Type 0} (r : Result Node E) (outer : List OpenElement) (kids : List Tree) (log : List Event) → length outer ≡ 0 → built_log outer kids ≡ log
    → AreBuilt outer kids → IfOk r (λ n. tree_of n ≡ node kind.Document [] [] (trees kids))
    → IfOk r (λ n. (bytes : List ℕ) (t : Tree) → Spells bytes t → log ≡ events t [] → tree_of n ≡ t)
document_built (Ok n) outer kids log e v b w = λ bytes t s f.
    let shaped = parts_shaped s.document.parts false false s.document.declared s.document.are_parts in
    let calls : events_all (trees kids) [] ≡ events_all (kids_of s.document.parts) [] =
    sym (ap (λ z. built_log z kids) (none_open outer e)) ∙ v ∙ f ∙ ap (λ z. events z []) s.document.is in
    w ∙ ap (λ z. node kind.Document [] [] z) (only_kids (trees kids) (kids_of s.document.parts) b.inside shaped calls) ∙ sym s.document.is
document_built (Err x) outer kids log e v b w = tt

-- how many elements calls open, and how many they close
abbrev opens : List Event → ℕ
opens [] = 0
opens (Opened n ∷ es) = opens es + 1
opens (Leaf k n v ∷ es) = opens es
opens (Closed ∷ es) = opens es

abbrev closes : List Event → ℕ
closes [] = 0
closes (Opened n ∷ es) = closes es
closes (Leaf k n v ∷ es) = closes es
closes (Closed ∷ es) = closes es + 1

mutual
  -- a tree's calls close what they open
  tree_balanced : (t : Tree) (next : List Event) → opens (events t next) + closes next ≡ closes (events t next) + opens next
  tree_balanced (node kind.Element n v ks) next = let below = all_balanced ks (Closed ∷ next) in omega arith
  tree_balanced (node kind.Document n v ks) next = all_balanced ks next
  tree_balanced (node kind.Attribute n v ks) next = omega arith
  tree_balanced (node kind.Text n v ks) next = omega arith
  tree_balanced (node kind.Comment n v ks) next = omega arith
  tree_balanced (node kind.Instruction n v ks) next = omega arith

  all_balanced : (ts : Trees) (next : List Event) → opens (events_all ts next) + closes next ≡ closes (events_all ts next) + opens next
  all_balanced none next = omega arith
  all_balanced (more t ts) next =
      let first = tree_balanced t (events_all ts next) in
      let others = all_balanced ts next in
      omega arith

-- each element that is open was opened and not closed
frames_open : (fs : List OpenElement) (rest : List Event) → opens (frames_log fs rest) + closes rest ≡ closes (frames_log fs rest) + (opens rest + length fs)
frames_open [] rest = omega arith
frames_open (f ∷ fs) rest =
    let front = all_balanced (trees f.kids) (Opened f.name ∷ frames_log fs rest) in
    let others = frames_open fs rest in
    omega arith

-- calls that open an element and don't close it make no node of it
front_opens : (ts ks : Trees) (n : List ℕ) (x : List Event) → AreShaped ts → AreShaped ks → events_all ts (Opened n ∷ x) ≡ Opened [] ∷ events_all ks [] → x ≡ events_all ks []
front_opens none ks n x a b e = cc
front_opens (more (node kind.Element m v ls) ts) ks n x a b e =
    let inner : events_all ls (Closed ∷ events_all ts (Opened n ∷ x)) ≡ events_all ks [] = cc in
    let bad = (all-inj ls ks (Closed ∷ events_all ts (Opened n ∷ x)) [] a.0.1 b tt tt inner).1 in
    cc
front_opens (more (node kind.Document m v ls) ts) ks n x a b e = absurd a.0
front_opens (more (node kind.Attribute m v ls) ts) ks n x a b e = cc
front_opens (more (node kind.Text m v ls) ts) ks n x a b e = cc
front_opens (more (node kind.Comment m v ls) ts) ks n x a b e = cc
front_opens (more (node kind.Instruction m v ls) ts) ks n x a b e = cc

-- where calls opened an element without a name and then made nodes, it is the only one open, and has these
pub content_built : (outer : List OpenElement) (kids : List Tree) (log : List Event) (ks : Trees) → built_log outer kids ≡ log → AreBuilt outer kids → AreShaped ks
    → log ≡ Opened [] ∷ events_all ks [] → trees kids ≡ ks
content_built outer kids log ks v b a e = by_frames outer (v ∙ e) b.before (frames_open outer (events_all (trees kids) [])) where
  by_frames : (fs : List OpenElement) → built_log fs kids ≡ Opened [] ∷ events_all ks [] → AllByRecursion (λ f. AreShaped (trees f.kids)) fs
      → opens (built_log fs kids) + closes (events_all (trees kids) []) ≡ closes (built_log fs kids) + (opens (events_all (trees kids) []) + length fs) → trees kids ≡ ks
  by_frames [] f s n =
      let made = all_balanced ks [] in
      let inner = all_balanced (trees kids) [] in
      let one : opens (built_log [] kids) ≡ opens (events_all ks []) + 1 = ap opens f in
      let other : closes (built_log [] kids) ≡ closes (events_all ks []) = ap closes f in
      absurd (omega arith)
  by_frames (g ∷ []) f s n = only_kids (trees kids) ks b.inside a (front_opens (trees g.kids) ks g.name (events_all (trees kids) []) s.0 a f)
  by_frames (g ∷ h ∷ fs) f s n =
      let made = all_balanced ks [] in
      let inner = all_balanced (trees kids) [] in
      let one : opens (built_log (g ∷ h ∷ fs) kids) ≡ opens (events_all ks []) + 1 = ap opens f in
      let other : closes (built_log (g ∷ h ∷ fs) kids) ≡ closes (events_all ks []) = ap closes f in
      absurd (omega arith)
