-- Nodes in which a call stands, and those with its rule's body over the call's arguments in its place: each key has the same before it.
use Rattle.std.proofs.Common.{◌≡◌, ◌≢◌, ℕ, ◌+◌, ◌<◌, ◌≤◌, List, [], ◌∷◌, ◌++◌, length, map, take, Some, refl, sym, ap, ◌∙◌, subst, arith}
use Rattle.std.proofs.lemmas.List.{length-map}
use Rattle.rule_arena.specs.Terms.{Node, kids_of, key_in}
use Rattle.rule_arena.specs.declared.key.Key.{Key}
use Rattle.rule_arena.specs.declared.label.Label.{Label}
use Rattle.rule_arena.specs.declared.label.Label.TheVariants.{Call}
use Rattle.slt_grammar.specs.Algebras.{ranks_of}
use Rattle.slt_grammar.specs.Bodies.{arity, IsTerm}
use Rattle.slt_grammar.specs.Editing.{put}
use Rattle.slt_grammar.specs.Grammars.{IsGrammar, body_at, rank_at}
use Rattle.slt_grammar.specs.Keyed.{labels_of}
use Rattle.slt_grammar.specs.Segments.{part_of, piece, spread}
use Rattle.slt_grammar.specs.Tours.{Stop, tour}
use Rattle.slt_grammar.specs.declared.rules.Rule.{Rule}
use Rattle.slt_grammar.proofs.Agreeing.{Agree, of-agree}
use Rattle.slt_grammar.proofs.FoldedRules.{flat}
use Rattle.slt_grammar.proofs.Substitutions.{joined, AllTerms}
use Rattle.slt_grammar.proofs.TourLemmas.{stops_map, tour-kids, tour-map}
use Rattle.start_fronts.proofs.Flags.{flagged, flagged-append, flagged-flat, flagged-other, flagged-split, flagged-terms, times, times-append, times-other}
use Rattle.start_fronts.proofs.Listings.{before, same-before, symbol_sum}

-- `calls` have a call of a rule where `bodies` have the rule's body over the same arguments; a key that is neither the call's nor of
-- a node of the body
pub record Exchange (G : List Rule) (q : ℕ) (key : Key) (calls bodies : List Node) : Type 0 where
  pub front : List Node
  pub call : Node
  pub args : List (List Node)
  pub body : List Node
  pub back : List Node
  pub calls_are : calls ≡ front ++ (call ∷ (flat args ++ back))
  pub bodies_are : bodies ≡ front ++ (body ++ back)
  pub called : q < length G
  pub label : call.label ≡ Call q
  pub terms : AllTerms (ranks_of G) (map labels_of args)
  pub many : length args ≡ rank_at G q
  pub other : call.key ≢ key
  pub times_body : times key body ≡ times key (flat args)
  pub flagged_body : (f : ℕ) → flagged key f body ≡ put (body_at G q) (map (flagged key f) args)

all-flagged : (ranks : List ℕ) (key : Key) (f : ℕ) (gs : List (List Node)) → AllTerms ranks (map labels_of gs) → AllTerms ranks (map (flagged key f) gs)
all-flagged ranks key f [] a = tt
all-flagged ranks key f (g ∷ gs) a = (flagged-terms ranks key f 1 g a.0, all-flagged ranks key f gs a.1)

pub spread-stops : (R : List Rule) (ms : List (Stop Node)) (k : List Label) → spread (λ m. part_of R m.item.label m.part) ms k ≡ spread (piece R) (stops_map (λ n. n.label) ms) k
spread-stops R [] k = refl
spread-stops R (m ∷ ms) k = ap (λ ls. part_of R m.item.label m.part ++ ls) (spread-stops R ms k)

-- the tour of nodes stands for what that of their labels does
pub before-nodes : (R : List Rule) (g : IsGrammar R) (xs : List Node) → Agree (ranks_of R) xs → spread (λ m. part_of R m.item.label m.part) (tour kids_of ([] ∷ []) xs) [] ≡ before R g (labels_of xs)
before-nodes R g xs a =
    spread-stops R (tour kids_of ([] ∷ []) xs) []
    ∙ ap (λ ms. spread (piece R) (stops_map (λ n. n.label) ms) []) (tour-kids (ranks_of R) ([] ∷ []) xs (of-agree (ranks_of R) xs a))
    ∙ ap (λ ms. spread (piece R) ms []) (tour-map (λ (n : Node). n.label) (arity (ranks_of R)) ([] ∷ []) xs)

module _ (G : List Rule) (q : ℕ) (key : Key) (calls bodies : List Node) (X : Exchange G q key calls bodies) where
  -- the key stands as often in both
  pub same-times : times key calls ≡ times key bodies
  same-times =
      omega (
        arith,
        ap (times key) X.calls_are,
        ap (times key) X.bodies_are,
        times-append key X.front (X.call ∷ (flat X.args ++ X.back)),
        times-other key X.call (flat X.args ++ X.back) X.other,
        times-append key (flat X.args) X.back,
        times-append key X.front (X.body ++ X.back),
        times-append key X.body X.back,
        X.times_body,
      )

  flagged-calls : (f : ℕ) → flagged key f calls ≡ flagged key f X.front ++ (Call q ∷ (joined (map (flagged key f) X.args) ++ flagged key f X.back))
  flagged-calls f =
      ap (flagged key f) X.calls_are
      ∙ flagged-append key f X.front (X.call ∷ (flat X.args ++ X.back))
      ∙ ap (λ ls. flagged key f X.front ++ ls) (
      flagged-other key f X.call (flat X.args ++ X.back) X.other
      ∙ ap (λ l. l ∷ flagged key f (flat X.args ++ X.back)) X.label
      ∙ ap (λ ls. Call q ∷ ls) (flagged-append key f (flat X.args) X.back ∙ ap (λ ls. ls ++ flagged key f X.back) (flagged-flat key f X.args)))

  flagged-bodies : (f : ℕ) → flagged key f bodies ≡ flagged key f X.front ++ (put (body_at G q) (map (flagged key f) X.args) ++ flagged key f X.back)
  flagged-bodies f =
      ap (flagged key f) X.bodies_are
      ∙ flagged-append key f X.front (X.body ++ X.back)
      ∙ ap (λ ls. flagged key f X.front ++ ls) (flagged-append key f X.body X.back ∙ ap (λ ls. ls ++ flagged key f X.back) (X.flagged_body f))

  -- and the same labels stand before it
  pub exchanged : (g : IsGrammar G) → times key calls ≤ 1 → IsTerm (ranks_of G) (labels_of calls) → IsTerm (ranks_of G) (labels_of bodies) → (i j : ℕ) → key_in calls i ≡ Some key → key_in bodies j ≡ Some key
      → before G g (labels_of (take i calls)) ≡ before G g (labels_of (take j bodies))
  exchanged g once s t i j d e =
      let ranks : List ℕ = ranks_of G in
      let xs : List Label = labels_of (take i calls) in
      let ys : List Label = labels_of (take j bodies) in
      let f : ℕ = symbol_sum (before G g xs) + symbol_sum (before G g ys) in
      let a = flagged-split key f calls i d once in
      let b = flagged-split key f bodies j e (omega (arith, once, same-times)) in
      same-before G g q (flagged key f X.front) (map (flagged key f) X.args) (flagged key f X.back) X.called (all-flagged ranks key f X.args X.terms)
      (length-map X.args (flagged key f) ∙ X.many) f xs a.0 ys b.0
      (sym (flagged-calls f) ∙ a.1) (sym (flagged-bodies f) ∙ b.1)
      (subst (IsTerm ranks) a.1 (flagged-terms ranks key f 1 calls s)) (subst (IsTerm ranks) b.1 (flagged-terms ranks key f 1 bodies t))
      (omega arith) (omega arith)
