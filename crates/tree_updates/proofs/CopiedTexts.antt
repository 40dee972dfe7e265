-- A text that is copied: an equal one is inserted before it, whose name is there.
use Rattle.std.proofs.Common.{◌≡◌, ℕ, zero, suc, ◌+◌, ◌*◌, ◌<◌, ◌≤◌, ◌^◌, List, [], ◌∷◌, take, Result, Ok, Err, ap, sym, ◌∙◌, subst, arith, Some, inl, inr}
use Rattle.std.specs.Prelude.{slice_get}
use Rattle.std.proofs.lemmas.Option.{same_Some}
use Rattle.plain_tree.specs.declared.kind.Kind.{Kind}
use Rattle.plain_tree.specs.declared.kind.Kind.TheVariants.{Text}
use Rattle.plain_tree.specs.declared.edit.Edit.TheVariants.{Copy, Insert}
use Rattle.plain_tree.specs.Allowed.{IsAllowed}
use Rattle.plain_tree.specs.Edits.{edited, merged}
use Rattle.plain_tree.specs.Lawful.{IsDocument}
use Rattle.plain_tree.specs.NodePairs.{Pair, tree_pair}
use Rattle.plain_tree.specs.Numbers.{nodes}
use Rattle.plain_tree.specs.Siblings.{from_node}
use Rattle.plain_tree.specs.Tree.{Tree, node, Trees, none, more, node_count}
use Rattle.plain_tree.proofs.SeamTexts.{text}
use Rattle.rule_arena.specs.declared.label.Label.TheVariants.{Symbol}
use Rattle.slt_grammar.specs.Coding.{Codes}
use Rattle.slt_grammar.specs.Grammars.{size, value}
use Rattle.slt_grammar.specs.Keyed.{KeyedRule, rules_of}
use Rattle.fcns_encoding.specs.Interning.{Interns, IsIn}
use Rattle.preorder_address.specs.Spots.{IsSpot}
use Rattle.preorder_address.specs.declared.spot.Spot.{Spot}
use Rattle.preorder_address.proofs.TreeSpots.{spot-node}
use Rattle.tree_updates.specs.Stores.{Applies, IsEdited, IsRefused, IsRefusedFor, IsStoreFor, NamesAfter}
use Rattle.tree_updates.specs.declared.store.EditError.{EditError}
use Rattle.tree_updates.specs.declared.store.EditError.TheVariants.{NoNode, NotAllowed, TooMany, Memory}
use Rattle.tree_updates.specs.declared.store.Store.{Store}
use Rattle.tree_updates.proofs.CopiedEdits.{edited-same, first-is, merged-same, text-beside}
use Rattle.tree_updates.proofs.Numbers.{at, in-tree}

-- a name that is there doesn't come
none-come : (k : ℕ) (old new : List Pair) → Interns old (take k []) new → new ≡ old
none-come zero old new h = h
none-come (suc k) old new h = h

there-already : (pair : Pair) (k : ℕ) (old new : List Pair) → IsIn pair old → Interns old (take k (pair ∷ [])) new → new ≡ old
there-already pair zero old new i h = h
there-already pair (suc k) old new i (inl h) = none-come k old new h.1
there-already pair (suc k) old new i (inr h) = absurd (h.0 i)

one-symbol : (f h : ℕ) → Symbol f ≡ Symbol h → f ≡ h
one-symbol f h e = cc

-- the name of a spot's node is in the table
pub spot-pair : (names : List Pair) (G : List KeyedRule) (t : Tree) (n : ℕ) (s : Spot) → Codes names (more t none) (value (rules_of G)) → IsSpot names G n s → (k : Kind) (m v : List ℕ) (ks : Trees) → slice_get (nodes t) n ≡ Some (node k m v ks)
    → slice_get names s.symbol ≡ Some (k, m)
spot-pair names G t n s c S k m v ks is =
    let x = spot-node names G t c n s.levels.items s.symbol s.before S in
    let there : Tree = node x.place.kind x.place.name x.place.value x.place.kids in
    let same : there ≡ node k m v ks = same_Some there (node k m v ks) (sym x.node_is ∙ is) in
    ap (slice_get names) (one-symbol s.symbol x.symbol x.is_symbol) ∙ x.place.pair ∙ ap (λ (r : Tree). Some (tree_pair r)) same

pub text-named : (names : List Pair) (G : List KeyedRule) (t : Tree) (d : IsDocument t) (n : ℕ) (low : n < node_count t) (s : Spot) → Codes names (more t none) (value (rules_of G)) → IsSpot names G n s → (z : List ℕ) (us : Trees) → from_node n (more t none) ≡ more (text z) us
    → IsIn (Text, []) names
text-named names G t d n low s c S z us is =
    let A = at t d.lawful n low in
    let here : A.here ≡ text z = first-is A.here (text z) A.behind us (sym A.from_is ∙ is) in
    (s.symbol, spot-pair names G t n s c S Text [] z none (in-tree t d.lawful n low ∙ ap Some here))

module _ (old new : Store) (t : Tree) (i : IsStoreFor old t) (n : ℕ) (low : n < node_count t) (z : List ℕ) (us : Trees) (is : from_node n (more t none) ≡ more (text z) us) (allowed : IsAllowed t (Copy n))
    (named : IsIn (Text, []) old.names) where
  same-edited : edited t (Copy n) ≡ edited t (Insert n (text z ∷ []))
  same-edited = edited-same t n low (text z) us is

  copied : IsEdited t (Insert n (text z ∷ [])) old new → IsEdited t (Copy n) old new
  copied e = record {
    allowed = allowed;
    store = subst (IsStoreFor new) (sym same-edited) e.store;
    names = there-already (Text, []) 1 old.names new.names named e.names;
    ranks = e.ranks;
    size = let h : size (rules_of new.grammar.rules) ≤ (2 + merged t (Copy n)) * size (rules_of old.grammar.rules) + 2 = subst (λ (m : ℕ). size (rules_of new.grammar.rules) ≤ (2 + m) * size (rules_of old.grammar.rules) + 2) (sym (merged-same t n low (text z) us is)) e.size in omega (arith, h);
  }

  refused : (error : EditError) → IsRefused t (Insert n (text z ∷ [])) error old new → IsRefused t (Copy n) error old new
  refused error e = record { cause = cause error e.cause; store = e.store; rules = e.rules; texts = e.texts; names = names error e.names }
    where
      cause : (error : EditError) → IsRefusedFor error t (Insert n (text z ∷ [])) → IsRefusedFor error t (Copy n)
      cause (NoNode count) c = c
      cause (NotAllowed kind) c = absurd (c.1 (text-beside t i.stand.document n z us is allowed))
      cause TooMany c = (allowed, subst (λ u. 2 ^ 63 ≤ node_count u) (sym same-edited) c.1)
      cause Memory c = tt

      names : (error : EditError) → NamesAfter error t (Insert n (text z ∷ [])) old.names new.names → NamesAfter error t (Copy n) old.names new.names
      names (NoNode count) h = h
      names (NotAllowed kind) h = h
      names TooMany h = h
      names Memory (inl same) = inl same
      names Memory (inr (may, (k, some))) = inl (there-already (Text, []) k old.names new.names named some)

  -- what inserting an equal text did is what the copy was to do
  pub copied-applies : (r : Result (Unit {0}) EditError) → Applies t (Insert n (text z ∷ [])) old r new → Applies t (Copy n) old r new
  copied-applies (Ok x) e = copied e
  copied-applies (Err error) e = refused error e
