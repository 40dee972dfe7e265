-- The start of the token that is held is the place of a bad fragment, too.
use Rattle.std.proofs.Common.{◌≡◌, ◌≢◌, ℕ, ◌+◌, ◌≤◌, Bool, true, false, List, [], ◌∷◌, ◌++◌, length, refl, ap, sym, ◌∙◌, subst, inl, inr, append_assoc, length-append, arith}
use Rattle.std.specs.Prelude.{Some, None, ◌==◌, ◌&&◌, nat_le, bytes_eq, map, if◌then◌else◌}
use Rattle.std.specs.List.{flat_map, AllByRecursion}
use Rattle.std.specs.Char.{encode_utf8}
use Rattle.std.proofs.lemmas.Slice.Eq.{bytes_eq-Decides}
use Rattle.std.proofs.lemmas.Str.{chars-nil}
use Rattle.plain_tree.specs.Tree.{Trees, none}
use Rattle.xml_tokenizer.specs.declared.scan.Scan.{Scan}
use Rattle.xml_nodes.specs.declared.stage.Stage.TheVariants as at
use Rattle.xml_nodes.proofs.Steps.{steps-append}
use Rattle.xml_nodes.proofs.Grammar.{split, some_is}
use Rattle.xml_nodes.proofs.Trees.{same_name}
use Rattle.xml_nodes.proofs.Fragments.{fragment-leads, leads-fragment}
use Rattle.xml_nodes.proofs.LineEnds.{no_returns}
use Rattle.xml_nodes.proofs.CharacterLemmas.{name_is}
use Rattle.xml_nodes.proofs.Bytes.{cut_lawful}
use Rattle.xml_nodes.proofs.Place.{CanEnd, broken_off_at, refused_from, refused_never_whole, ended_lines}
use Rattle.xml_tokenizer.specs.LineEnds.{line_ends, ends_in_return, line_end_of}
use Rattle.plain_tree.specs.XmlNames.{are_name_chars}
use Rattle.plain_tree.specs.Lawful.{IsName}
use Rattle.xml_tokens.specs.Tokens.{Token, Character, Reference, Section, Start, Empty, End, Comment, Instruction, Declaration, Doctype, AreTokens}
use Rattle.xml_nodes.specs.LawfulTokens.{IsLawfulToken, AreLawfulTokens}
use Rattle.xml_nodes.specs.Content.{IsContent}
use Rattle.xml_nodes.specs.Machine.{State, Event, Opened, Closed, Stepped, step, steps, then_on, calls_before, opened_at, left, brackets_after, text_leaf, events_all, fragment_start}
use Rattle.xml_nodes.specs.Laws.{HasName}
use Rattle.xml_nodes.specs.Spelling.{SpellsList}
use Rattle.xml_nodes.specs.Place.{ending_tag, IsEnding, IsOpenList, IsListPlace}
use Rattle.xml_nodes.specs.Stands.{StandsFrom, Refuses}
use Rattle.xml_nodes.proofs.TokenFacts.{empty_a_spelled, end_spelled}
use Rattle.xml_tokenizer.proofs.Cuts.{tokens_more, tokens_then}

-- the element without a name is open, and these inside it, the innermost first
abbrev within : List (List ℕ) → List ℕ → ℕ → State
within names text b = record { stage = at.Inside; names = names ++ [] ∷ []; text = text; brackets = b }

record IsWithin (s : State) : Type 0 where
  names : List (List ℕ)
  text : List ℕ
  brackets : ℕ
  are : AllByRecursion IsName names
  is : s ≡ within names text brackets

within_it : (names : List (List ℕ)) (text : List ℕ) (b : ℕ) → AllByRecursion IsName names → IsWithin (within names text b)
within_it names text b all = record { names = names; text = text; brackets = b; are = all; is = refl }

abbrev some_step : State → List Event → Stepped
some_step s es = Some (s, es)

to_state : (a r : State) (es fs : List Event) → some_step a es ≡ some_step r fs → IsWithin a → IsWithin r
to_state a r es fs e w = subst IsWithin (ap (λ z. z.0) (some_is (a, es) (r, fs) e)) w

if_some : (b : Bool) (a r : State) (es fs : List Event) → (if b then some_step a es else None) ≡ some_step r fs → IsWithin a → IsWithin r
if_some true a r es fs e w = to_state a r es fs e w
if_some false a r es fs e w = cc

if_none : (b : Bool) (a r : State) (es fs : List Event) → (if b then None else some_step a es) ≡ some_step r fs → IsWithin a → IsWithin r
if_none true a r es fs e w = cc
if_none false a r es fs e w = to_state a r es fs e w

-- no Name is empty
no_empty_name : IsName [] → ⊥
no_empty_name n = let bad = subst (λ z. are_name_chars z ≡ true) chars-nil (name_is [] n) in cc

left_within : (names : List (List ℕ)) → AllByRecursion IsName names → IsWithin (opened_at (left (names ++ [] ∷ [])) (names ++ [] ∷ []))
left_within [] all = within_it [] [] 0 all
left_within (n ∷ names) all = within_it (n ∷ names) [] 0 all

step_within : (names : List (List ℕ)) (text : List ℕ) (b : ℕ) (t : Token) (r : State) (calls : List Event) → AllByRecursion IsName names → IsLawfulToken t
    → step (within names text b) t ≡ some_step r calls → IsWithin r
step_within names text b (Character c) r calls all l e =
    if_none ((c == 62) && nat_le 2 b) (within names (text ++ encode_utf8 c) (brackets_after b c)) r [] calls e (within_it names (text ++ encode_utf8 c) (brackets_after b c) all)
step_within names text b (Reference c) r calls all l e = to_state (within names (text ++ encode_utf8 c) 0) r [] calls e (within_it names (text ++ encode_utf8 c) 0 all)
step_within names text b (Section v) r calls all l e = to_state (within names (text ++ v) 0) r [] calls e (within_it names (text ++ v) 0 all)
step_within names text b (Start n attrs) r calls all l e = to_state (within (n ∷ names) [] 0) r _ calls e (within_it (n ∷ names) [] 0 (l.0, all))
step_within names text b (Empty n attrs) r calls all l e = to_state (within names [] 0) r _ calls e (within_it names [] 0 all)
step_within [] text b (End n) r calls all l e = by_test (bytes_eq [] n) refl e where
  by_test : (x : Bool) → bytes_eq [] n ≡ x → (if x then some_step (opened_at at.Epilog []) (text_leaf text ++ Closed ∷ []) else None) ≡ some_step r calls → IsWithin r
  by_test true f g = absurd (no_empty_name (subst IsName (sym ((bytes_eq-Decides [] n).0 f)) l))
  by_test false f g = cc
step_within (m ∷ names) text b (End n) r calls all l e =
    if_some (bytes_eq m n) (opened_at (left (names ++ [] ∷ [])) (names ++ [] ∷ [])) r _ calls e (left_within names all.1)
step_within names text b (Comment v) r calls all l e = to_state (within names [] 0) r _ calls e (within_it names [] 0 all)
step_within names text b (Instruction n v) r calls all l e = to_state (within names [] 0) r _ calls e (within_it names [] 0 all)
step_within names text b Declaration r calls all l e = cc
step_within names text b Doctype r calls all l e = cc

steps_within : (ts : List Token) (s r : State) (calls : List Event) → IsWithin s → AreLawfulTokens ts → steps s ts ≡ some_step r calls → IsWithin r
steps_within [] s r calls w l e = to_state s r [] calls e w
steps_within (t ∷ ts) s r calls w l e = by_step (step s t) refl e (λ mid others k f. steps_within ts mid r others k l.1 f) where
  by_step : (x : Stepped) → step s t ≡ x → then_on x (λ z. steps z ts) ≡ some_step r calls
      → ((mid : State) (others : List Event) → IsWithin mid → steps mid ts ≡ some_step r others → IsWithin r) → IsWithin r
  by_step None f e next = cc
  by_step (Some (mid, first)) f e next =
      let p = split first (steps mid ts) r calls e in
      next mid p.others (step_within w.names w.text w.brackets t mid first w.are l.0 (ap (λ z. step z t) (sym w.is) ∙ f)) p.rest

-- end tags for all open elements, and the end of the fragment
record ClosesAll (s : State) (names : List (List ℕ)) : Type 0 where
  last : State
  calls : List Event
  leads : steps s (map End names ++ End [] ∷ []) ≡ Some (last, calls)
  ended : last.stage ≡ at.Epilog
  long : length names + 1 ≤ length calls

close_all : (names : List (List ℕ)) (text : List ℕ) (b : ℕ) → ClosesAll (within names text b) names
close_all [] text b = record {
  last = opened_at at.Epilog [];
  calls = (text_leaf text ++ Closed ∷ []) ++ [];
  leads = refl;
  ended = refl;
  long = omega (arith, length-append (text_leaf text ++ Closed ∷ []) [], length-append (text_leaf text) (Closed ∷ []));
}
close_all (n ∷ names) text b = by_rest names (close_all names [] 0) where
  by_rest : (ms : List (List ℕ)) → ClosesAll (within ms [] 0) ms → ClosesAll (within (n ∷ ms) text b) (n ∷ ms)
  by_rest ms below = record {
    last = below.last;
    calls = (text_leaf text ++ Closed ∷ []) ++ below.calls;
    leads = rw (same_name n) (by_left ms below);
    ended = below.ended;
    long = omega (arith, below.long, length-append (text_leaf text ++ Closed ∷ []) below.calls, length-append (text_leaf text) (Closed ∷ []));
  } where
    by_left : (ms : List (List ℕ)) (below : ClosesAll (within ms [] 0) ms)
        → calls_before (text_leaf text ++ Closed ∷ []) (steps (opened_at (left (ms ++ [] ∷ [])) (ms ++ [] ∷ [])) (map End ms ++ End [] ∷ [])) ≡ Some (below.last, (text_leaf text ++ Closed ∷ []) ++ below.calls)
    by_left [] below = ap (λ z. calls_before (text_leaf text ++ Closed ∷ []) z) below.leads
    by_left (k ∷ ks) below = ap (λ z. calls_before (text_leaf text ++ Closed ∷ []) z) below.leads

has_name : (t : Token) → IsLawfulToken t → HasName t
has_name (End n) l = λ e. let is : n ≡ [] = cc in no_empty_name (subst IsName is l)
has_name (Character c) l = λ e. cc
has_name (Reference c) l = λ e. cc
has_name (Section v) l = λ e. cc
has_name (Start n attrs) l = λ e. cc
has_name (Empty n attrs) l = λ e. cc
has_name (Comment v) l = λ e. cc
has_name (Instruction n v) l = λ e. cc
has_name Declaration l = λ e. cc
has_name Doctype l = λ e. cc

pub have_names : (ts : List Token) → AreLawfulTokens ts → AllByRecursion HasName ts
have_names [] l = tt
have_names (t ∷ ts) l = (has_name t l.0, have_names ts l.1)

ends_have_names : (names : List (List ℕ)) → AllByRecursion IsName names → AllByRecursion HasName (map End names)
ends_have_names [] all = tt
ends_have_names (n ∷ names) all = (has_name (End n) all.0, ends_have_names names all.1)

both_have : (ts us : List Token) → AllByRecursion HasName ts → AllByRecursion HasName us → AllByRecursion HasName (ts ++ us)
both_have [] us a b = b
both_have (t ∷ ts) us a b = (a.0, both_have ts us a.1 b)

-- tokens of a fragment that gives a node
abbrev pub IsSomeFragment : List Token → Type 0
IsSomeFragment tokens = (nodes : Trees) × IsContent nodes false tokens [] × (nodes ≢ none)

-- an end that leads to a fragment of at least one node
record LeadsOut (s : State) : Type 0 where
  tokens : List Token
  bytes : List ℕ
  ending : IsEnding bytes
  cut : AreTokens tokens bytes []
  names : AllByRecursion HasName tokens
  last : State
  calls : List Event
  leads : steps s (tokens ++ End [] ∷ []) ≡ Some (last, calls)
  ended : last.stage ≡ at.Epilog
  long : 2 ≤ length calls

tags_cut : (names : List (List ℕ)) → AllByRecursion IsName names → AreTokens (map End names) (flat_map ending_tag names) []
tags_cut [] all = refl
tags_cut (n ∷ names) all = (ending_tag n, flat_map ending_tag names, end_spelled n all.0, refl, tags_cut names all.1)

leads_out : (names : List (List ℕ)) (text : List ℕ) (b : ℕ) → AllByRecursion IsName names → LeadsOut (within names text b)
leads_out [] text b all = record {
  tokens = Empty (97 ∷ []) [] ∷ [];
  bytes = 60 ∷ 97 ∷ 47 ∷ 62 ∷ [];
  ending = inr (inl refl);
  cut = (60 ∷ 97 ∷ 47 ∷ 62 ∷ [], [], empty_a_spelled, refl, refl);
  names = ((λ e. cc), tt);
  last = opened_at at.Epilog [];
  calls = (text_leaf text ++ Opened (97 ∷ []) ∷ Closed ∷ []) ++ (Closed ∷ []);
  leads = refl;
  ended = refl;
  long = omega (arith, length-append (text_leaf text ++ Opened (97 ∷ []) ∷ Closed ∷ []) (Closed ∷ []), length-append (text_leaf text) (Opened (97 ∷ []) ∷ Closed ∷ []));
}
leads_out (n ∷ names) text b all =
    let c = close_all (n ∷ names) text b in
    record {
      tokens = map End (n ∷ names);
      bytes = flat_map ending_tag (n ∷ names);
      ending = inr (inr (n ∷ names, all, refl));
      cut = tags_cut (n ∷ names) all;
      names = ends_have_names (n ∷ names) all;
      last = c.last;
      calls = c.calls;
      leads = c.leads;
      ended = c.ended;
      long = omega (arith, c.long);
    }

whole_open : (front : List ℕ) (ts : List Token) (now : State) (log : List Event) → AreTokens ts (line_ends front) [] → steps fragment_start ts ≡ Some (now, log) → IsOpenList front
whole_open front ts now log cut e =
    let lawful = cut_lawful ts (line_ends front) (no_returns false front) cut in
    let w = steps_within ts fragment_start now log (within_it [] [] 0 tt) lawful e in
    let out = subst LeadsOut (sym w.is) (leads_out w.names w.text w.brackets w.are) in
    let leads : steps fragment_start ((ts ++ out.tokens) ++ End [] ∷ []) ≡ Some (out.last, log ++ out.calls) =
    ap (λ z. steps fragment_start z) (append_assoc ts out.tokens (End [] ∷ []))
    ∙ steps-append ts (out.tokens ++ End [] ∷ []) fragment_start ∙ ap (λ z. then_on z (λ s. steps s (out.tokens ++ End [] ∷ []))) e ∙ ap (λ z. calls_before log z) out.leads in
    let d = leads-fragment (ts ++ out.tokens) out.last (log ++ out.calls) (both_have ts out.tokens (have_names ts lawful) out.names) leads out.ended in (
      out.bytes,
      d.nodes,
      out.ending,
      record {
        tokens = ts ++ out.tokens;
        cut = subst (λ z. AreTokens (ts ++ out.tokens) z []) (sym (ended_lines front out.bytes out.ending))
            (tokens_then ts out.tokens (line_ends front ++ out.bytes) out.bytes [] (tokens_more ts (line_ends front) [] out.bytes cut) out.cut);
        content = d.are;
        some = λ none_it. too_short log out.calls out.long (d.logged ∙ ap (λ z. events_all z (Closed ∷ [])) none_it);
      },
    ) where
      too_short : (x y : List Event) → 2 ≤ length y → x ++ y ≡ Closed ∷ [] → ⊥
      too_short x y h f = let whole : length x + length y ≡ 1 = sym (length-append x y) ∙ ap length f in absurd (omega arith)

leads_of : (ts : List Token) → IsSomeFragment ts → (r : State) × (es : List Event) × (steps fragment_start ts ≡ Some (r, es))
leads_of ts d = by_steps (steps fragment_start ts) refl (sym (steps-append ts (End [] ∷ []) fragment_start) ∙ fragment-leads ts d.0 d.1) where
  by_steps : (x : Stepped) → steps fragment_start ts ≡ x → then_on (steps fragment_start ts) (λ z. steps z (End [] ∷ [])) ≡ some_step (opened_at at.Epilog []) (events_all d.0 (Closed ∷ []))
      → (r : State) × (es : List Event) × (steps fragment_start ts ≡ Some (r, es))
  by_steps None f e = let bad = rw f at e in cc
  by_steps (Some (r, es)) f e = (r, es, f)

can_end : (bytes : List ℕ) → IsOpenList bytes → CanEnd fragment_start IsSomeFragment leads_of bytes
can_end bytes (e, nodes, is, s) = record { end = e; ending = is; tokens = s.tokens; cut = s.cut; whole = (nodes, s.content, s.some) }

pub list_broken_off : (front raw held : List ℕ) (scan : Scan) (now : State) (log : List Event) → StandsFrom fragment_start front raw held scan now log
    → IsListPlace (front ++ raw) (length front)
list_broken_off front raw held scan now log s =
    broken_off_at fragment_start IsSomeFragment leads_of (IsOpenList) can_end front (whole_open front s.tokens now log s.read.cut s.stepped) raw held scan now log s

pub list_refused_at : (front raw held : List ℕ) (scan : Scan) (now : State) (log : List Event) (c : ℕ) (next : List ℕ) → StandsFrom fragment_start front raw held scan now log
    → (ends_in_return false (front ++ raw) && (c == 10)) ≡ false → Refuses held scan now (line_end_of c) → IsListPlace ((front ++ raw) ++ c ∷ next) (length front)
list_refused_at front raw held scan now log c next s kept r =
    refused_from fragment_start IsSomeFragment leads_of (IsOpenList) can_end front (whole_open front s.tokens now log s.read.cut s.stepped) raw held scan now log c
    next s kept r

pub refused_spells_no_list : (front raw held next : List ℕ) (scan : Scan) (now : State) (log : List Event) (c : ℕ) → StandsFrom fragment_start front raw held scan now log
    → (ends_in_return false (front ++ raw) && (c == 10)) ≡ false → Refuses held scan now (line_end_of c)
    → (nodes : Trees) → SpellsList ((front ++ raw) ++ c ∷ next) nodes → ⊥
refused_spells_no_list front raw held next scan now log c s kept r nodes p =
    refused_never_whole fragment_start IsSomeFragment leads_of front raw held next scan now log c s kept r p.tokens p.cut (nodes, p.content, p.some)
