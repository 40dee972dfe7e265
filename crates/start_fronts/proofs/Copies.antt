-- Copies of a rule's nodes over arguments, flagged.
use Rattle.std.proofs.Common.{◌≡◌, ℕ, ◌+◌, List, [], ◌∷◌, ◌++◌, length, get_or, drop, map, Bool, true, false, refl, ap, ◌∙◌, arith}
use Rattle.rule_arena.specs.Terms.{Node}
use Rattle.rule_arena.specs.declared.key.Key.{Key}
use Rattle.rule_arena.specs.declared.label.Label.{Label}
use Rattle.rule_arena.specs.declared.label.Label.TheVariants.{Bottom, Symbol, Call, Param}
use Rattle.slt_grammar.specs.Copying.{hole, holes_in, copied, copied_node}
use Rattle.slt_grammar.specs.Detaching.{AreArgs}
use Rattle.slt_grammar.specs.Editing.{put}
use Rattle.slt_grammar.specs.Keyed.{labels_of}
use Rattle.slt_grammar.proofs.Agreeing.{Agree, agree-parts, labels-terms}
use Rattle.slt_grammar.proofs.FoldedRules.{flat}
use Rattle.slt_grammar.proofs.Substitutions.{AllTerms}
use Rattle.start_fronts.proofs.Flags.{flag, flagged, flagged-append, has_key, one_if, times, times-append}

-- arguments whose nodes have their arities are terms
pub all-given : (ranks : List ℕ) (ks : List Key) (gs : List (List Node)) → AreArgs ks gs → Agree ranks (flat gs) → AllTerms ranks (map labels_of gs)
all-given ranks [] [] A a = tt
all-given ranks [] (g ∷ gs) A a = absurd A
all-given ranks (k ∷ ks) [] A a = absurd A
all-given ranks (k ∷ ks) (g ∷ gs) A a = let p = agree-parts ranks g (flat gs) a in (labels-terms ranks 1 g p.0 A.0, all-given ranks ks gs A.2 p.1)

none-if : (b : Bool) (n : ℕ) → one_if b + n ≡ 0 → b ≡ false
none-if true n e = absurd (omega (arith, e))
none-if false n e = refl

module _ (key : Key) where
  -- a key stands among a copy as often as among the copied nodes' new keys, and among the arguments
  pub times-copied : (ns : List Node) (given : List (List Node)) (keys : List Key) → length given ≡ holes_in ns → times key (copied ns given keys) ≡ times key (copied ns [] keys) + times key (flat given)
  times-copied [] [] keys h = omega arith
  times-copied [] (g ∷ given) keys h = absurd (omega (arith, h))
  times-copied (n ∷ ns) given keys h = at n.label given h (λ g e. times-copied ns g (drop 1 keys) e)
    where
      at : (l : Label) (given : List (List Node)) → length given ≡ hole l + holes_in ns
          → ((g : List (List Node)) → length g ≡ holes_in ns → times key (copied ns g (drop 1 keys)) ≡ times key (copied ns [] (drop 1 keys)) + times key (flat g))
          → times key (copied_node l n (get_or keys 0 n.key) given (copied ns (drop (hole l) given) (drop 1 keys)))
          ≡ times key (copied_node l n (get_or keys 0 n.key) [] (copied ns (drop (hole l) []) (drop 1 keys))) + times key (flat given)
      at Bottom given h ih = omega (arith, ih given (omega (arith, h)))
      at (Symbol f) given h ih = omega (arith, ih given (omega (arith, h)))
      at (Call c) given h ih = omega (arith, ih given (omega (arith, h)))
      at Param [] h ih = absurd (omega (arith, h))
      at Param (g ∷ given) h ih = omega (arith, ih given (omega (arith, h)), times-append key g (copied ns given (drop 1 keys)), times-append key g (flat given))

  -- a flagged copy without the key among the new ones is the copied labels over the flagged arguments
  pub flagged-copied : (f : ℕ) (ns : List Node) (given : List (List Node)) (keys : List Key) → length given ≡ holes_in ns → times key (copied ns [] keys) ≡ 0
      → flagged key f (copied ns given keys) ≡ put (labels_of ns) (map (flagged key f) given)
  flagged-copied f [] given keys h z = refl
  flagged-copied f (n ∷ ns) given keys h z = at n.label refl given h z (λ g e y. flagged-copied f ns g (drop 1 keys) e y)
    where
      at : (l : Label) → n.label ≡ l → (given : List (List Node)) → length given ≡ hole l + holes_in ns
          → times key (copied_node l n (get_or keys 0 n.key) [] (copied ns (drop (hole l) []) (drop 1 keys))) ≡ 0
          → ((g : List (List Node)) → length g ≡ holes_in ns → times key (copied ns [] (drop 1 keys)) ≡ 0 → flagged key f (copied ns g (drop 1 keys)) ≡ put (labels_of ns) (map (flagged key f) g))
          → flagged key f (copied_node l n (get_or keys 0 n.key) given (copied ns (drop (hole l) given) (drop 1 keys))) ≡ put (l ∷ labels_of ns) (map (flagged key f) given)
      at Bottom e given h z ih =
          let m : Node = record n { key = get_or keys 0 n.key } in
          let rest : List Node = copied ns given (drop 1 keys) in
          let y : has_key key m ≡ false = none-if (has_key key m) (times key (copied ns [] (drop 1 keys))) z in
          ap (λ b. flag b f (n.label ∷ flagged key f rest)) y ∙ ap (λ l. l ∷ flagged key f rest) e
          ∙ ap (λ ls. Bottom ∷ ls) (ih given (omega (arith, h)) (omega (arith, z)))
      at (Symbol s) e given h z ih =
          let m : Node = record n { key = get_or keys 0 n.key } in
          let rest : List Node = copied ns given (drop 1 keys) in
          let y : has_key key m ≡ false = none-if (has_key key m) (times key (copied ns [] (drop 1 keys))) z in
          ap (λ b. flag b f (n.label ∷ flagged key f rest)) y ∙ ap (λ l. l ∷ flagged key f rest) e
          ∙ ap (λ ls. Symbol s ∷ ls) (ih given (omega (arith, h)) (omega (arith, z)))
      at (Call c) e given h z ih =
          let m : Node = record n { key = get_or keys 0 n.key } in
          let rest : List Node = copied ns given (drop 1 keys) in
          let y : has_key key m ≡ false = none-if (has_key key m) (times key (copied ns [] (drop 1 keys))) z in
          ap (λ b. flag b f (n.label ∷ flagged key f rest)) y ∙ ap (λ l. l ∷ flagged key f rest) e
          ∙ ap (λ ls. Call c ∷ ls) (ih given (omega (arith, h)) (omega (arith, z)))
      at Param e [] h z ih = absurd (omega (arith, h))
      at Param e (g ∷ given) h z ih =
          flagged-append key f g (copied ns given (drop 1 keys))
          ∙ ap (λ ls. flagged key f g ++ ls) (ih given (omega (arith, h)) (omega (arith, z)))
