-- All nodes that are hit are renamed.
use Rattle.std.proofs.Common.{◌≡◌, ◌<◌, ◌^◌, ℕ, suc, ◌+◌, List, [], ◌∷◌, ◌++◌, length, map, All, Bool, true, false, Option, Some, slice_get, slice_index_or, if◌then◌else◌, refl, sym, ap, ◌∙◌, arith, subst, append-nil, take}
use Rattle.std.specs.List.{AllZip}
use Rattle.std.proofs.lemmas.List.Elements.{All-append, All-cons, All-nil, All-head, All-tail}
use Rattle.plain_tree.specs.declared.kind.Kind.{Kind}
use Rattle.plain_tree.specs.Lawful.{IsDocument, IsLawfulName, AreLawfulTrees}
use Rattle.plain_tree.specs.NodePairs.{Pair}
use Rattle.plain_tree.specs.Numbers.{kind_of, nodes, nodes_all}
use Rattle.plain_tree.specs.Tree.{Tree, node, Trees, none, more, node_count, node_count_all}
use Rattle.plain_tree.proofs.NodeCounts.{length-nodes_all}
use Rattle.slt_grammar.specs.Algebras.{Algebra}
use Rattle.slt_grammar.specs.Automata.{Downward, hits, nodes_in}
use Rattle.slt_grammar.specs.Coding.{Codes}
use Rattle.slt_grammar.specs.Grammars.{IsGrammar, body_at, value}
use Rattle.slt_grammar.specs.Standing.{StandsFor}
use Rattle.slt_grammar.specs.Terms.{Term}
use Rattle.slt_grammar.specs.declared.rules.Rule.{Rule}
use Rattle.fcns_encoding.specs.Interning.{IsIn, Interns}
use Rattle.fcns_encoding.specs.Laws.{AreLawful}
use Rattle.fcns_encoding.proofs.InternLemmas.{Interns-distinct, Interns-keeps}
use Rattle.fcns_encoding.proofs.LawfulLemmas.{none-lawful, lawful-cons, Interns-lawful}
use Rattle.bulk_rewrite.specs.Laws.{GetsName, HasNodeNames}
use Rattle.bulk_rewrite.specs.Making.{AreMadeOnce, AreFew}
use Rattle.bulk_rewrite.specs.NewNames.{AreIn, IsRenamedSymbol}
use Rattle.bulk_rewrite.specs.Numbered.{has}
use Rattle.bulk_rewrite.specs.Refusing.{is_renamable, AreSigns, IsSignFor, Signs, no_sign, signs_of, refusing_run}
use Rattle.bulk_rewrite.specs.declared.refusing.Sign.{Sign}
use Rattle.bulk_rewrite.specs.RenamedAll.{taken_nodes, nodes_with, MayRename, renamed_pairs, AreRenamed}
use Rattle.bulk_rewrite.specs.Renaming.{renaming, renamed_all}
use Rattle.bulk_rewrite.specs.Rewriting.{Rewriting, IsLawful, rewritten}
use Rattle.bulk_rewrite.proofs.Bodies.{made-few}
use Rattle.bulk_rewrite.proofs.Grammars.{small-made}
use Rattle.bulk_rewrite.proofs.GrowingNames.{interns-in, pair_with}
use Rattle.bulk_rewrite.proofs.HitSymbols.{Each, IsOf, each-hit, hit-each, hit_symbols, hits-coded, taken-append}
use Rattle.bulk_rewrite.proofs.Spared.{refuses-none, none-where-allowed}
use Rattle.bulk_rewrite.proofs.Standings.{stands-renamed}
use Rattle.bulk_rewrite.proofs.Trees.{count-code}
use Rattle.bulk_rewrite.proofs.Zips.{zip-at}

-- the signs of a list tell what they are to
pub signs-are : (names : List Pair) (name : List ℕ) (signs : List Sign) → AllZip (IsSignFor name) names signs → AreSigns names name (signs_of signs)
signs-are names name signs z = record {
  may = λ f kind old at. (sign f kind old at).may;
  must = λ f kind old at. (sign f kind old at).must;
  attribute = λ f kind old at. (sign f kind old at).attribute;
  alike = λ f kind old at. (sign f kind old at).alike;
  unlike = λ f kind old at. (sign f kind old at).unlike;
}
  where
    sign : (f : ℕ) (kind : Kind) (old : List ℕ) → slice_get names f ≡ Some (kind, old) → IsSignFor name (kind, old) (slice_index_or signs f no_sign)
    sign f kind old at = zip-at (IsSignFor name) names signs f (kind, old) no_sign z at

-- a code has fewer nodes than its document may have
pub few-nodes : (names : List Pair) (term : Term) (t : Tree) → Codes names (more t none) term → node_count t < 2 ^ 63 → nodes_in term < 2 ^ 63
few-nodes names term t code small = omega (arith, count-code names (more t none) term code, small)

-- nodes with names, by their symbols
named-nodes : (names : List Pair) (fs : List ℕ) (ss : List Tree) → AllZip (IsOf names) fs ss → Each (HasNodeNames names) fs → All (λ s. is_renamable (kind_of s) ≡ true) ss
named-nodes names [] [] a e = All-nil (λ s. is_renamable (kind_of s) ≡ true)
named-nodes names [] (s ∷ ss) a e = absurd a
named-nodes names (f ∷ fs) [] a e = absurd a
named-nodes names (f ∷ fs) (node k o v ks ∷ ss) a e = All-cons (λ s. is_renamable (kind_of s) ≡ true) (node k o v ks) ss (e.0 k o a.0) (named-nodes names fs ss a.1 e.1)

node-names : (names : List Pair) (fs : List ℕ) (ss : List Tree) → AllZip (IsOf names) fs ss → All (λ s. is_renamable (kind_of s) ≡ true) ss → Each (HasNodeNames names) fs
node-names names [] [] a e = tt
node-names names [] (s ∷ ss) a e = absurd a
node-names names (f ∷ fs) [] a e = absurd a
node-names names (f ∷ fs) (node k o v ks ∷ ss) a e =
    let P : Tree → Type 0 = λ s. is_renamable (kind_of s) ≡ true in
    (λ kind old at. first kind old at (All-head P (node k o v ks) ss e), node-names names fs ss a.1 (All-tail P (node k o v ks) ss e))
  where
    first : (kind : Kind) (old : List ℕ) → slice_get names f ≡ Some (kind, old) → is_renamable k ≡ true → is_renamable kind ≡ true
    first kind old at h =
        let pairs : ◌≡◌ {A = Option Pair} (Some (k, o)) (Some (kind, old)) = sym a.0 ∙ at in
        let one : ◌≡◌ {A = Pair} (k, o) (kind, old) = cc in
        ap (λ (q : Pair). is_renamable q.0) (sym one) ∙ h

-- the name is lawful for the nodes that get it, where they are lawful with it
taken-lawful : (taken : ℕ → Bool) (name : List ℕ) (n : ℕ) (ts : Trees) → AreLawfulTrees (renamed_all taken name n ts) → All (λ s. IsLawfulName (kind_of s) name) (taken_nodes taken n (nodes_all ts))
taken-lawful taken name n none l = All-nil (λ s. IsLawfulName (kind_of s) name)
taken-lawful taken name n (more (node k o v ks) ts) l =
    let P : Tree → Type 0 = λ s. IsLawfulName (kind_of s) name in
    let next : ℕ = n + (node_count_all ks + 1) in
    let place : next ≡ suc n + length (nodes_all ks) = omega (arith, length-nodes_all ks) in
    let xs : List Tree = taken_nodes taken (suc n) (nodes_all ks) in
    let ys : List Tree = taken_nodes taken next (nodes_all ts) in
    let rest : All P (taken_nodes taken (suc n) (nodes_all ks ++ nodes_all ts)) =
    rw (taken-append taken (suc n) next (nodes_all ks) (nodes_all ts) place) (All-append P xs ys (taken-lawful taken name (suc n) ks l.0.2) (taken-lawful taken name next ts l.1)) in
    first (taken n) l.0.0.0 rest
  where
    first : (b : Bool) → IsLawfulName k (if b then name else o) → All (λ s. IsLawfulName (kind_of s) name) (taken_nodes taken (suc n) (nodes_all ks ++ nodes_all ts))
        → All (λ s. IsLawfulName (kind_of s) name) ((if b then node k o v ks ∷ [] else []) ++ taken_nodes taken (suc n) (nodes_all ks ++ nodes_all ts))
    first true i r = All-cons (λ s. IsLawfulName (kind_of s) name) (node k o v ks) (taken_nodes taken (suc n) (nodes_all ks ++ nodes_all ts)) i r
    first false i r = r

pairs-lawful : (name : List ℕ) (ss : List Tree) → All (λ s. IsLawfulName (kind_of s) name) ss → AreLawful (map (pair_with name) ss)
pairs-lawful name [] a = none-lawful
pairs-lawful name (s ∷ ss) a =
    let P : Tree → Type 0 = λ s. IsLawfulName (kind_of s) name in
    lawful-cons (kind_of s, name) (map (pair_with name) ss) (All-head P s ss a) (pairs-lawful name ss (All-tail P s ss a))

-- the symbols of nodes whose pairs are in the table get the new name
gets-names : (old new : List Pair) (name : List ℕ) (symbols : List ℕ) → ((f : ℕ) (p : Pair) → slice_get old f ≡ Some p → slice_get new f ≡ Some p) → AllZip (IsRenamedSymbol new name) new symbols → (fs : List ℕ) (ss : List Tree) → AllZip (IsOf old) fs ss → AreIn new (map (pair_with name) ss)
    → Each (GetsName old new name (λ f. slice_index_or symbols f f)) fs
gets-names old new name symbols keeps z [] [] a i = tt
gets-names old new name symbols keeps z [] (s ∷ ss) a i = absurd a
gets-names old new name symbols keeps z (f ∷ fs) [] a i = absurd a
gets-names old new name symbols keeps z (f ∷ fs) (node k o v ks ∷ ss) a i =
    let P : Pair → Type 0 = λ p. IsIn p new in
    (λ kind was at. first kind was at (All-head P (k, name) (map (pair_with name) ss) i), gets-names old new name symbols keeps z fs ss a.1 (All-tail P (k, name) (map (pair_with name) ss) i))
  where
    first : (kind : Kind) (was : List ℕ) → slice_get old f ≡ Some (kind, was) → IsIn (k, name) new → slice_get new (slice_index_or symbols f f) ≡ Some (kind, name)
    first kind was at h =
        let pairs : ◌≡◌ {A = Option Pair} (Some (k, o)) (Some (kind, was)) = sym a.0 ∙ at in
        let one : ◌≡◌ {A = Pair} (k, o) (kind, was) = cc in
        let there : IsIn (kind, name) new = subst (λ (q : Pair). IsIn (q.0, name) new) one h in
        zip-at (IsRenamedSymbol new name) new symbols f (kind, was) f z (keeps f (kind, was) at) there

one-tree : (t : Tree) → nodes_all (more t none) ≡ nodes t
one-tree t = append-nil (nodes t)

-- the pairs of nodes that may be renamed are lawful
pub renamed-lawful : (numbers name : List ℕ) (t : Tree) → MayRename numbers name t → AreLawful (renamed_pairs numbers name t)
renamed-lawful numbers name t may =
    pairs-lawful name (nodes_with numbers t)
    (subst (λ ns. All (λ s. IsLawfulName (kind_of s) name) (taken_nodes (has numbers) 0 ns)) (one-tree t) (taken-lawful (has numbers) name 0 (more t none) (may.document.lawful, tt)))

module _ {S D : Type 0} (A : Algebra S) (W : Downward S D) where
  -- the symbols that are hit are those of the nodes with these numbers
  pub hits-of-tree : (names : List Pair) (term : Term) (t : Tree) → Codes names (more t none) term → AllZip (IsOf names) (hit_symbols A W [] term W.start) (nodes_with (hits A W term) t)
  hits-of-tree names term t code =
      subst (λ ns. AllZip (IsOf names) (hit_symbols A W [] term W.start) (taken_nodes (has (hits A W term)) 0 ns)) (one-tree t)
      (hits-coded A W [] names (has (hits A W term)) (more t none) term 0 W.start code (λ k low high. refl))

  module _ (names : List Pair) (term : Term) (t : Tree) (code : Codes names (more t none) term) (doc : IsDocument t) (name : List ℕ) (signs : Signs) (known : AreSigns names name signs) where
    -- the run that refuses hits nothing exactly where the nodes may be renamed
    pub free-may : hits A (refusing_run W signs) term ≡ [] → MayRename (hits A W term) name t
    free-may e =
        let m = refuses-none A W names term t code doc name signs known e in
        record { named = named-nodes names (hit_symbols A W [] term W.start) (nodes_with (hits A W term) t) (hits-of-tree names term t code) (hit-each A W [] (HasNodeNames names) term W.start m.named); document = m.document }

    pub may-free : MayRename (hits A W term) name t → hits A (refusing_run W signs) term ≡ []
    may-free m =
        let each = node-names names (hit_symbols A W [] term W.start) (nodes_with (hits A W term) t) (hits-of-tree names term t code) m.named in
        none-where-allowed A W names term t code doc name signs known (record { named = each-hit A W [] (HasNodeNames names) term W.start each; document = m.document })

  -- rules of what becomes of the value stand for the renamed document
  module _ (G H : List Rule) (names new : List Pair) (values : List (List ℕ)) (t : Tree) (st : StandsFor G names values t) (name : List ℕ) (symbols : List ℕ) where
    abbrev M : List ℕ
    M = hits A W (value G)

    pub all-renamed : MayRename M name t → Interns names (renamed_pairs M name t) new → AllZip (IsRenamedSymbol new name) new symbols → value H ≡ rewritten A W (renaming (λ f. slice_index_or symbols f f)) (value G) [] W.start → AreRenamed M name names new H values t
    all-renamed may come z made =
        let keeps = Interns-keeps names (renamed_pairs M name t) new come in
        let each = gets-names names new name symbols keeps z (hit_symbols A W [] (value G) W.start) (nodes_with M t) (hits-of-tree names (value G) t st.code) (interns-in names (renamed_pairs M name t) new come) in
        let change : ℕ → ℕ = λ f. slice_index_or symbols f f in
        record {
          allowed = may;
          stand = stands-renamed A W G H names values t st new name change keeps (Interns-distinct names (renamed_pairs M name t) new come st.distinct)
              (Interns-lawful names (renamed_pairs M name t) new come st.lawful (renamed-lawful M name t may))
              (each-hit A W [] (GetsName names new name change) (value G) W.start each) may.document made;
          names = come;
        }

-- rules that are made once are few
pub few-made : {S D : Type 0} (A : Algebra S) (W : Downward S D) (G : List Rule) → IsGrammar G → (R : Rewriting D) → IsLawful W R → (H : List Rule) → AreMadeOnce A W G R H → AreFew A W G H
few-made A W G gr R law H once = record {
  triples = once.triples;
  many = once.made.many;
  met = once.met;
  distinct = once.distinct;
  small = λ i k d at. let one = once.made.each i k d at in (made-few A W G R (take i once.triples) (body_at G k.0) k.1 (d ∷ []) (body_at H i) one.body).1;
  ranks = λ i k d at. small-made A W G gr R law once.triples H once.made i k d at;
}
