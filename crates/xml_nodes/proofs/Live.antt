-- From every state that tokens lead to, one of the three ends leads to a document.
use Rattle.std.proofs.Common.{◌≡◌, ◌≢◌, ℕ, Bool, true, false, List, [], ◌∷◌, ◌++◌, refl, ap, subst, inl, inr}
use Rattle.std.specs.Prelude.{Some, None, ◌==◌, ◌&&◌, nat_le, bytes_eq, map, if◌then◌else◌}
use Rattle.std.specs.List.{flat_map, AllByRecursion}
use Rattle.std.specs.Char.{encode_utf8}
use Rattle.xml_nodes.specs.declared.stage.Stage.{Stage}
use Rattle.xml_nodes.specs.declared.stage.Stage.TheVariants as at
use Rattle.xml_nodes.proofs.Grammar.{split, some_is}
use Rattle.xml_nodes.proofs.Runs.{inside}
use Rattle.xml_nodes.proofs.Trees.{same_name}
use Rattle.plain_tree.specs.Lawful.{IsName}
use Rattle.plain_tree.specs.XmlNames.{is_space}
use Rattle.xml_tokens.specs.Tokens.{Token, Character, Reference, Section, Start, Empty, End, Comment, Instruction, Declaration, Doctype, AreTokens}
use Rattle.xml_nodes.specs.Machine.{State, Event, Stepped, step, step_at, outer_step, inner_step, end_step, steps, then_on, calls_before, at_stage, with_text, opened_at, passed, may_root, may_type, may_declare, is_front, left, brackets_after, start, text_leaf, Closed}
use Rattle.xml_nodes.specs.Place.{ending_tag, IsEnding}
use Rattle.xml_nodes.proofs.TokenFacts.{empty_a_spelled, end_spelled}

-- all names are names, and inside the root some element is open
pub record IsLive (s : State) : Type 0 where
  pub names : AllByRecursion IsName s.names
  pub some : s.stage ≡ at.Inside → s.names ≢ []

-- the element that a start tag opens has a name
abbrev pub IsNamed : Token → Type 0
IsNamed (Start name attributes) = IsName name
IsNamed (Character c) = Unit {0}
IsNamed (Reference c) = Unit {0}
IsNamed (Section v) = Unit {0}
IsNamed (Empty name attributes) = Unit {0}
IsNamed (End name) = Unit {0}
IsNamed (Comment v) = Unit {0}
IsNamed (Instruction n v) = Unit {0}
IsNamed Declaration = Unit {0}
IsNamed Doctype = Unit {0}

pub start_lives : IsLive start
start_lives = record { names = tt; some = λ e. cc }

abbrev some_step : State → List Event → Stepped
some_step s es = Some (s, es)

-- what a step that leads to a leads to
to_state : (a r : State) (es fs : List Event) → some_step a es ≡ some_step r fs → IsLive a → IsLive r
to_state a r es fs e l = subst IsLive (ap (λ z. z.0) (some_is (a, es) (r, fs) e)) l

moved : (s : State) (stage : Stage) → IsLive s → (stage ≡ at.Inside → ⊥) → IsLive (at_stage s stage)
moved s stage l out = record { names = l.names; some = λ e. absurd (out e) }

passed_outside : (stage : Stage) → (stage ≡ at.Inside → ⊥) → passed stage ≡ at.Inside → ⊥
passed_outside at.Front out e = cc
passed_outside at.Marked out e = cc
passed_outside at.Prolog out e = cc
passed_outside at.Typed out e = cc
passed_outside at.Inside out e = out e
passed_outside at.Epilog out e = cc

if_some : (b : Bool) (a r : State) (es fs : List Event) → (if b then some_step a es else None) ≡ some_step r fs → IsLive a → IsLive r
if_some true a r es fs e l = to_state a r es fs e l
if_some false a r es fs e l = cc

if_none : (b : Bool) (a r : State) (es fs : List Event) → (if b then None else some_step a es) ≡ some_step r fs → IsLive a → IsLive r
if_none true a r es fs e l = cc
if_none false a r es fs e l = to_state a r es fs e l

outer_lives : (s : State) (t : Token) (r : State) (calls : List Event) → (s.stage ≡ at.Inside → ⊥) → IsLive s → IsNamed t → outer_step s t ≡ Some (r, calls) → IsLive r
outer_lives s (Character c) r calls out l n e = by_tests (is_space c) (is_front s.stage && (c == 0xFEFF)) e where
  by_tests : (b m : Bool) → (if b then some_step (at_stage s (passed s.stage)) [] else (if m then some_step (at_stage s at.Marked) [] else None)) ≡ some_step r calls → IsLive r
  by_tests true m e = to_state (at_stage s (passed s.stage)) r [] calls e (moved s (passed s.stage) l (passed_outside s.stage out))
  by_tests false m e = if_some m (at_stage s at.Marked) r [] calls e (moved s at.Marked l (λ f. cc))
outer_lives s (Reference c) r calls out l n e = cc
outer_lives s (Section v) r calls out l n e = cc
outer_lives s (Start name attrs) r calls out l n e =
    if_some (may_root s.stage) (record { stage = at.Inside; names = name ∷ s.names; text = s.text; brackets = s.brackets }) r _ calls e
    (record { names = (n, l.names); some = λ _ f. cc })
outer_lives s (Empty name attrs) r calls out l n e = if_some (may_root s.stage) (at_stage s at.Epilog) r _ calls e (moved s at.Epilog l (λ f. cc))
outer_lives s (End name) r calls out l n e = cc
outer_lives s (Comment v) r calls out l n e = to_state (at_stage s (passed s.stage)) r _ calls e (moved s (passed s.stage) l (passed_outside s.stage out))
outer_lives s (Instruction m v) r calls out l n e = to_state (at_stage s (passed s.stage)) r _ calls e (moved s (passed s.stage) l (passed_outside s.stage out))
outer_lives s Declaration r calls out l n e = if_some (may_declare s.stage) (at_stage s at.Prolog) r [] calls e (moved s at.Prolog l (λ f. cc))
outer_lives s Doctype r calls out l n e = if_some (may_type s.stage) (at_stage s at.Typed) r [] calls e (moved s at.Typed l (λ f. cc))

left_lives : (names : List (List ℕ)) → AllByRecursion IsName names → IsLive (opened_at (left names) names)
left_lives [] all = record { names = tt; some = λ e. cc }
left_lives (n ∷ names) all = record { names = all; some = λ _ f. cc }

end_lives : (names : List (List ℕ)) (text n : List ℕ) (r : State) (calls : List Event) → AllByRecursion IsName names → end_step names text n ≡ Some (r, calls) → IsLive r
end_lives [] text n r calls all e = cc
end_lives (m ∷ names) text n r calls all e = if_some (bytes_eq m n) (opened_at (left names) names) r _ calls e (left_lives names all.1)

inner_lives : (s : State) (t : Token) (r : State) (calls : List Event) → IsLive s → IsNamed t → inner_step s t ≡ Some (r, calls) → IsLive r
inner_lives s (Character c) r calls l n e =
    if_none ((c == 62) && nat_le 2 s.brackets) (with_text s (s.text ++ encode_utf8 c) (brackets_after s.brackets c)) r [] calls e (record { names = l.names; some = l.some })
inner_lives s (Reference c) r calls l n e = to_state (with_text s (s.text ++ encode_utf8 c) 0) r [] calls e (record { names = l.names; some = l.some })
inner_lives s (Section v) r calls l n e = to_state (with_text s (s.text ++ v) 0) r [] calls e (record { names = l.names; some = l.some })
inner_lives s (Start name attrs) r calls l n e = to_state (opened_at s.stage (name ∷ s.names)) r _ calls e (record { names = (n, l.names); some = λ _ f. cc })
inner_lives s (Empty name attrs) r calls l n e = to_state (opened_at s.stage s.names) r _ calls e (record { names = l.names; some = l.some })
inner_lives s (End name) r calls l n e = end_lives s.names s.text name r calls l.names e
inner_lives s (Comment v) r calls l n e = to_state (opened_at s.stage s.names) r _ calls e (record { names = l.names; some = l.some })
inner_lives s (Instruction m v) r calls l n e = to_state (opened_at s.stage s.names) r _ calls e (record { names = l.names; some = l.some })
inner_lives s Declaration r calls l n e = cc
inner_lives s Doctype r calls l n e = cc

step_lives : (stage : Stage) (s : State) (t : Token) (r : State) (calls : List Event) → s.stage ≡ stage → IsLive s → IsNamed t → step_at stage s t ≡ Some (r, calls) → IsLive r
step_lives at.Front s t r calls f l n e = outer_lives s t r calls (λ g. cc) l n e
step_lives at.Marked s t r calls f l n e = outer_lives s t r calls (λ g. cc) l n e
step_lives at.Prolog s t r calls f l n e = outer_lives s t r calls (λ g. cc) l n e
step_lives at.Typed s t r calls f l n e = outer_lives s t r calls (λ g. cc) l n e
step_lives at.Epilog s t r calls f l n e = outer_lives s t r calls (λ g. cc) l n e
step_lives at.Inside s t r calls f l n e = inner_lives s t r calls l n e

pub steps_live : (ts : List Token) (s r : State) (calls : List Event) → IsLive s → AllByRecursion IsNamed ts → steps s ts ≡ Some (r, calls) → IsLive r
steps_live [] s r calls l n e = to_state s r [] calls e l
steps_live (t ∷ ts) s r calls l n e = by_step (step s t) refl e (λ mid others k f. steps_live ts mid r others k n.1 f) where
  by_step : (x : Stepped) → step s t ≡ x → then_on x (λ z. steps z ts) ≡ Some (r, calls)
      → ((mid : State) (others : List Event) → IsLive mid → steps mid ts ≡ Some (r, others) → IsLive r) → IsLive r
  by_step None f e next = cc
  by_step (Some (mid, first)) f e next =
      let p = split first (steps mid ts) r calls e in
      next mid p.others (step_lives s.stage s t mid first refl l n.0 f) p.rest

-- an end that leads to a document
pub record LeadsOut (s : State) : Type 0 where
  pub tokens : List Token
  pub bytes : List ℕ
  pub ending : IsEnding bytes
  pub cut : AreTokens tokens bytes []
  pub last : State
  pub calls : List Event
  pub leads : steps s tokens ≡ Some (last, calls)
  pub ended : last.stage ≡ at.Epilog

by_root : (s : State) (calls : List Event) → step s (Empty (97 ∷ []) []) ≡ Some (at_stage s at.Epilog, calls) → LeadsOut s
by_root s calls e = record {
  tokens = Empty (97 ∷ []) [] ∷ [];
  bytes = 60 ∷ 97 ∷ 47 ∷ 62 ∷ [];
  ending = inr (inl refl);
  cut = (60 ∷ 97 ∷ 47 ∷ 62 ∷ [], [], empty_a_spelled, refl, refl);
  last = at_stage s at.Epilog;
  calls = calls ++ [];
  leads = ap (λ z. then_on z (λ r. steps r [])) e;
  ended = refl;
}

tags_cut : (names : List (List ℕ)) → AllByRecursion IsName names → AreTokens (map End names) (flat_map ending_tag names) []
tags_cut [] all = refl
tags_cut (n ∷ names) all = (ending_tag n, flat_map ending_tag names, end_spelled n all.0, refl, tags_cut names all.1)

record ClosesAll (s : State) (names : List (List ℕ)) : Type 0 where
  last : State
  calls : List Event
  leads : steps s (map End names) ≡ Some (last, calls)
  ended : last.stage ≡ at.Epilog

close_all : (names : List (List ℕ)) (n text : List ℕ) (b : ℕ) → ClosesAll (inside (n ∷ names) text b) (n ∷ names)
close_all [] n text b = record { last = opened_at at.Epilog []; calls = (text_leaf text ++ Closed ∷ []) ++ []; leads = rw (same_name n) refl; ended = refl }
close_all (k ∷ names) n text b =
    let below = close_all names k [] 0 in
    record {
      last = below.last;
      calls = (text_leaf text ++ Closed ∷ []) ++ below.calls;
      leads = rw (same_name n) (ap (λ z. calls_before (text_leaf text ++ Closed ∷ []) z) below.leads);
      ended = below.ended;
    }

leads_out : (stage : Stage) (names : List (List ℕ)) (text : List ℕ) (b : ℕ) → IsLive (record { stage = stage; names = names; text = text; brackets = b })
    → LeadsOut (record { stage = stage; names = names; text = text; brackets = b })
leads_out at.Front names text b l = by_root _ _ refl
leads_out at.Marked names text b l = by_root _ _ refl
leads_out at.Prolog names text b l = by_root _ _ refl
leads_out at.Typed names text b l = by_root _ _ refl
leads_out at.Epilog names text b l = record {
  tokens = [];
  bytes = [];
  ending = inl refl;
  cut = refl;
  last = record { stage = at.Epilog; names = names; text = text; brackets = b };
  calls = [];
  leads = refl;
  ended = refl;
}
leads_out at.Inside [] text b l = absurd (l.some refl refl)
leads_out at.Inside (n ∷ names) text b l =
    let c = close_all names n text b in
    record {
      tokens = map End (n ∷ names);
      bytes = flat_map ending_tag (n ∷ names);
      ending = inr (inr (n ∷ names, l.names, refl));
      cut = tags_cut (n ∷ names) l.names;
      last = c.last;
      calls = c.calls;
      leads = c.leads;
      ended = c.ended;
    }

pub live_leads_out : (s : State) → IsLive s → LeadsOut s
live_leads_out s l = leads_out s.stage s.names s.text s.brackets l
