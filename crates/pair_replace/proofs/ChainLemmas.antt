-- Occurrences of a digram as they are read, and up a chain of them.
use Rattle.std.proofs.Common.{◌≡◌, ◌≢◌, ℕ, ◌<◌, Option, Some, None, Bool, true, false, MatchBool, refl, sym, ap, ◌∙◌, subst}
use Rattle.rule_arena.specs.declared.key.Key.{Key}
use Rattle.rule_arena.proofs.NodeLemmas.{key_of_node}
use Rattle.slt_grammar.specs.Keyed.{Keyed, IsKeyed, nodes_at}
use Rattle.slt_grammar.specs.declared.digram.Digram.{Digram}
use Rattle.digram_index.specs.Digrams.{Cell, OccursAt}
use Rattle.digram_index.specs.Linked.{Linked, cell}
use Rattle.digram_index.specs.Keeping.{AreOccurrences}
use Rattle.digram_index.specs.Settled.{NodePair}
use Rattle.digram_index.proofs.Apartness.{Stood, stands, one-key, meet}
use Rattle.digram_index.proofs.ParentLemmas.{parent-there}
use Rattle.digram_index.proofs.RankLemmas.{digram-sound, digram-same}
use Rattle.slt_grammar.specs.contracts.digram.DigramPartialEq.TheImpl as eqs
use Rattle.pair_replace.specs.Chains.{IsLinkedAs, IsHead, upper_at, upper_of}
use Rattle.digram_index.proofs.Climbs.{all_before, climbs}

-- the upper node of an occurrence stands before its lower one
pub upper-before : (g : Keyed) → IsKeyed g → (low : Key) (o : Cell) (O : OccursAt g.rules low o) (up : Key) → up.number ≡ o.upper → all_before g.rules up.number < all_before g.rules low.number
upper-before g K low o O up e =
    let S = stands g.rules O.rule O.place low o O.there O.here in
    let P = parent-there (nodes_at g.rules O.rule) O.place (S.up, o.digram.place) S.parent in
    climbs g K O.rule O.place P.0 low up O.there (key_of_node (nodes_at g.rules O.rule) P.0 S.up P.1.1 ∙ ap Some (one-key S.up.key up (S.upper ∙ sym e))) P.1.0

-- a number that is linked as the digram is one whose cell says so
pub linked-upper : (I : Linked) (d : Digram) (k : ℕ) (o : Cell) → cell I k ≡ Some o → upper_at I k ≡ o.upper
linked-upper I d k o e = ap upper_of e

pub some-cell : (c : Option Cell) → c ≢ None → (o : Cell) × (c ≡ Some o)
some-cell None d = absurd (d refl)
some-cell (Some o) d = (o, refl)

-- the digram that was read says whether it is linked as the other
pub occurs-told : (I : Linked) (k : ℕ) (o : Cell) (found d : Digram) (b : Bool) → cell I k ≡ Some o → o.digram ≡ found → b ≡ eqs.eq-value.it found d → MatchBool b (IsLinkedAs I d k) (IsLinkedAs I d k → ⊥)
occurs-told I k o found d true e f t = (o, (e, f ∙ digram-sound found d (sym t)))
occurs-told I k o found d false e f t = λ w.
    let one : (x y : Cell) → Some x ≡ Some y → x ≡ y = λ x y z. cc in
    let z : o ≡ w.0 = one o w.0 (sym e ∙ w.1.0) in
    let y : found ≡ d = sym f ∙ ap (λ (x : Cell). x.digram) z ∙ w.1.1 in
    let x : false ≡ true = t ∙ digram-same found d y in
    cc

-- the head of a chain in an index with the same cells
pub head-same : (I J : Linked) (d : Digram) (k : ℕ) → ((n : ℕ) → cell J n ≡ cell I n) → IsHead I d k → IsHead J d k
head-same I J d k same H = record {
  linked = (H.linked.0, (same k ∙ H.linked.1.0, H.linked.1.1));
  first = λ w.
      let u : upper_at J k ≡ upper_at I k = ap upper_of (same k) in
      let v : IsLinkedAs J d (upper_at I k) = subst (λ (n : ℕ). IsLinkedAs J d n) u w in
      H.first (v.0, (sym (same (upper_at I k)) ∙ v.1.0, v.1.1));
}

-- an occurrence whose labels differ is the head of its chain
pub head-differing : (g : Keyed) → IsKeyed g → (I : Linked) (d : Digram) → AreOccurrences g.rules I → d.upper ≢ d.lower → (low : Key) → IsLinkedAs I d low.number → IsHead I d low.number
head-differing g K I d occurrences differ low w = record {
  linked = w;
  first = λ v.
      let up : Key = record { number = upper_at I low.number } in
      differ (sym (meet g K d (pair up v) (pair low w) (stood up v) (stood low w) (linked-upper I d low.number w.0 w.1.0)).labels);
}
  where
    pair : (key : Key) → IsLinkedAs I d key.number → NodePair
    pair key v = record { low = key.number; high = v.0.upper }

    stood : (key : Key) (v : IsLinkedAs I d key.number) → Stood g.rules d (pair key v)
    stood key v =
        let O = occurrences key v.0 v.1.0 in
        record {
          rule = O.rule;
          place = O.place;
          key = key;
          occurrence = v.0;
          key_at = O.there;
          at = stands g.rules O.rule O.place key v.0 O.there O.here;
          low = refl;
          high = refl;
          digram = v.1.1;
        }
