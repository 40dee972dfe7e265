-- What the tokens behind a state of the machine give, where they lead to the end.
use Rattle.std.proofs.Common.{◌≡◌, ℕ, Bool, true, false, List, [], ◌∷◌, ◌++◌, refl, subst}
use Rattle.std.specs.Prelude.{◌==◌, ◌&&◌, nat_le, if◌then◌else◌}
use Rattle.std.specs.List.{list_all, flat_map}
use Rattle.plain_tree.specs.Tree.{Trees}
use Rattle.xml_tokens.specs.Tokens.{Token, Character, Reference, Section, Start, Empty, End, Comment, Instruction, Declaration, Doctype}
use Rattle.xml_nodes.specs.Content.{is_text_piece, given, HasNoSectionEnd, AreBehindRun, Part, kids_of, AreParts}
use Rattle.xml_nodes.specs.Machine.{Event, Closed, events_all, text_leaf, brackets_after}

-- how many ] stand at the end, 2 at most, with one token more
abbrev pub count_after : ℕ → Token → ℕ
count_after b (Character c) = brackets_after b c
count_after b (Reference c) = 0
count_after b (Section v) = 0
count_after b (Start n attrs) = 0
count_after b (Empty n attrs) = 0
count_after b (End n) = 0
count_after b (Comment v) = 0
count_after b (Instruction n v) = 0
count_after b Declaration = 0
count_after b Doctype = 0

-- the token doesn't end ]]>
abbrev pub ends_section : ℕ → Token → Bool
ends_section b (Character c) = (c == 62) && nat_le 2 b
ends_section b (Reference c) = false
ends_section b (Section v) = false
ends_section b (Start n attrs) = false
ends_section b (Empty n attrs) = false
ends_section b (End n) = false
ends_section b (Comment v) = false
ends_section b (Instruction n v) = false
ends_section b Declaration = false
ends_section b Doctype = false

abbrev pub IsFree : ℕ → Token → Type 0
IsFree b t = ends_section b t ≡ false

-- no ]]> stands in the tokens, where this many ] stand before them
abbrev pub Counted : ℕ → List Token → Type 0
Counted b [] = Unit {0}
Counted b (t ∷ ts) = IsFree b t × Counted (count_after b t) ts

two : (b : ℕ) → brackets_after (brackets_after b 93) 93 ≡ 2
two b = by_test (nat_le 1 b) where
  by_test : (x : Bool) → ◌≡◌ {A = ℕ} (if nat_le 1 (if x then 2 else 1) then 2 else 1) 2
  by_test true = refl
  by_test false = refl

section_end : (b : ℕ) (rest : List Token) → Counted b (Character 93 ∷ Character 93 ∷ Character 62 ∷ rest) → ⊥
section_end b rest c =
    let bad = subst (λ z. nat_le 2 z ≡ false) (two b) c.1.1.0 in
    cc

pub no_section_end : (ts : List Token) (b : ℕ) → Counted b ts → HasNoSectionEnd ts
no_section_end [] b c = tt
no_section_end (t ∷ ts) b c = (λ rest e. section_end b rest (subst (Counted b) e c), no_section_end ts (count_after b t) c.1)

-- An element with this name is open, and this text, at whose end so many ] stand, is the last of its content so far: the tokens
-- give the rest of its content and its end tag, and Next holds of what follows. The calls are the ones from there on.
pub record Fills (name text : List ℕ) (b : ℕ) (tokens : List Token) (calls : List Event) (Next : List Token → List Event → Type 0) : Type 0 where
  pub pieces : List Token
  pub each : list_all is_text_piece pieces ≡ true
  pub counted : Counted b pieces
  pub items : Trees
  pub mid : List Token
  pub after : List Token
  pub others : List Event
  pub whole : tokens ≡ pieces ++ mid
  pub content : AreBehindRun items mid (End name ∷ after)
  pub logged : calls ≡ text_leaf (text ++ flat_map given pieces) ++ events_all items (Closed ∷ others)
  pub next : Next after others

-- behind the root: no element may come, nor a DOCTYPE
pub record Ends (typed rooted : Bool) (tokens : List Token) (calls : List Event) : Type 0 where
  pub parts : List Part
  pub are : AreParts typed rooted parts tokens
  pub logged : calls ≡ events_all (kids_of parts) []

-- the elements with these names are open, the innermost first: the tokens fill them all, and end the document
abbrev pub Rest : List (List ℕ) → List Token → List Event → Type 0
Rest [] tokens calls = Ends true true tokens calls
Rest (n ∷ names) tokens calls = Fills n [] 0 tokens calls (λ after others. Rest names after others)
