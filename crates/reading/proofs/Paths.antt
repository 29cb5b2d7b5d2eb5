-- From line to line: each good line leads to one beginning, so that of two paths through a text one goes on where the other ends.
use Rattle.std.proofs.Common.{◌≡◌, ℕ, ◌<◌, ◌≤◌, true, ◌⊎◌, List, [], ◌∷◌, ◌++◌, reverse, length, None, codes, sym, refl, ap, ◌∙◌, subst, inl, inr, ⊎_elim, arith}
use Rattle.std.specs.List.{flat_map}
use Rattle.parts.specs.declared.bar.Bar.{Bar}
use Rattle.parts.specs.declared.bolt.Bolt.{Bolt}
use Rattle.parts.specs.declared.hole.Hole.{Hole}
use Rattle.parts.specs.Ranges.{bar_ranges, bolt_ranges}
use Rattle.sections.specs.Texts.{Load, bar_words, bolt_words, hole_words, load_words}
use Rattle.sheet.specs.Calls.{put_fault}
use Rattle.sheet.specs.Law.{bearable}
use Rattle.text.specs.Words.{Begins, line}
use Rattle.text.proofs.Clean.{Clean, Cleans, clean_by, clean_decimal, clean_signed, written_line}
use Rattle.text.proofs.Headers.{header_once}
use Rattle.text.proofs.Lines.{begins_once}
use Rattle.reading.specs.Beginnings.{Beginning, nothing, bar_named, barred, bolt_named, bolted, holing, loading, header_words, lines, written, account_of, Fresh, HolesGood, LoadsGood, Lawful}
use Rattle.reading.specs.LineFaults.{LineFault}
use Rattle.reading.specs.declared.fault.Cause.{Cause}
use Rattle.reading.proofs.Forward.{one_more}
use Rattle.reading.proofs.LinesOnce.{ShortHole, header_good, header_fault, bar_once, bar_good, bar_fault, bolt_once, bolt_good, bolt_fault, hole_once, hole_good, hole_fault, load_once, load_good, load_fault}
use Rattle.reading.proofs.Spelling.{clean_steel, clean_size, clean_letter, short_bar, short_bolt, short_hole, nine_load}

-- the text begins with a good line, goes on with rest, and what it has said then is d
abbrev pub Good : Beginning → List ℕ → List ℕ → Beginning → Type 0
Good nothing text rest d = Begins text (header_words 1 (codes "bar")) rest × (d ≡ bar_named)
Good bar_named text rest d = (b : Bar) × (bar_ranges b ≡ true) × Begins text (bar_words b) rest × (d ≡ barred b)
Good (barred b) text rest d = Begins text (header_words 1 (codes "bolt")) rest × (d ≡ bolt_named b)
Good (bolt_named b) text rest d = (t : Bolt) × (bolt_ranges t ≡ true) × Begins text (bolt_words t) rest × (d ≡ bolted b t)
Good (bolted b t) text rest d = (n : ℕ) × (n ≤ 32) × Begins text (header_words n (codes "holes")) rest × (d ≡ holing b t n [])
Good (holing b t n hs) text rest d =
    ((h : Hole) × (length hs < n) × (put_fault (account_of (holing b t n hs)) h ≡ None) × ShortHole h × Begins text (hole_words h) rest × (d ≡ holing b t n (h ∷ hs)))
    ⊎ ((length hs ≡ n) × Begins text (header_words 7 (codes "loads")) rest × (d ≡ loading b t hs []))
Good (loading b t hs ps) text rest d =
    (p : Load) × (length ps < 7) × Fresh p.0 ps × (bearable p.1 ≡ true) × Begins text (load_words p) rest × (d ≡ loading b t hs (p ∷ ps))

pub good_once : (b : Beginning) (text r s : List ℕ) (d e : Beginning) → Good b text r d → Good b text s e → (d ≡ e) × (r ≡ s)
good_once nothing text r s d e g h = (g.1 ∙ sym h.1, (begins_once g.0 h.0).1)
good_once bar_named text r s d e g h = (g.3 ∙ ap barred (bar_once g.0 h.0 g.1 h.1 g.2 h.2) ∙ sym h.3, (begins_once g.2 h.2).1)
good_once (barred b) text r s d e g h = (g.1 ∙ sym h.1, (begins_once g.0 h.0).1)
good_once (bolt_named b) text r s d e g h = (g.3 ∙ ap (bolted b) (bolt_once g.0 h.0 g.1 h.1 g.2 h.2) ∙ sym h.3, (begins_once g.2 h.2).1)
good_once (bolted b t) text r s d e g h =
    let o = header_once g.0 h.0 (omega arith) (omega arith) g.2 h.2 in
    (g.3 ∙ ap (λ n. holing b t n []) o.0 ∙ sym h.3, o.2)
good_once (holing b t n hs) text r s d e (inl g) (inl h) = (g.5 ∙ ap (λ x. holing b t n (x ∷ hs)) (hole_once g.0 h.0 g.3 h.3 g.4 h.4) ∙ sym h.5, (begins_once g.4 h.4).1)
good_once (holing b t n hs) text r s d e (inl g) (inr h) = absurd (omega arith)
good_once (holing b t n hs) text r s d e (inr g) (inl h) = absurd (omega arith)
good_once (holing b t n hs) text r s d e (inr g) (inr h) = (g.2 ∙ sym h.2, (begins_once g.1 h.1).1)
good_once (loading b t hs ps) text r s d e g h = (g.5 ∙ ap (λ p. loading b t hs (p ∷ ps)) (load_once g.0 h.0 g.3 h.3 g.4 h.4) ∙ sym h.5, (begins_once g.4 h.4).1)

-- a good line has no fault
pub good_no_fault : (b : Beginning) (text rest : List ℕ) (d : Beginning) (c : Cause) → Good b text rest d → LineFault b text c → ⊥
good_no_fault nothing text rest d c g f = header_good 1 1 1 g.0 (omega arith) (omega arith) (omega arith) f
good_no_fault bar_named text rest d c g f = bar_good g.0 g.1 g.2 f
good_no_fault (barred b) text rest d c g f = header_good 1 1 1 g.0 (omega arith) (omega arith) (omega arith) f
good_no_fault (bolt_named b) text rest d c g f = bolt_good g.0 g.1 g.2 f
good_no_fault (bolted b t) text rest d c g f = header_good g.0 0 32 g.2 (omega arith) (omega arith) g.1 f
good_no_fault (holing b t n hs) text rest d c (inl g) (inl f) = hole_good (account_of (holing b t n hs)) g.0 g.3 g.2 g.4 f.1
good_no_fault (holing b t n hs) text rest d c (inl g) (inr f) = absurd (omega arith)
good_no_fault (holing b t n hs) text rest d c (inr g) (inl f) = absurd (omega arith)
good_no_fault (holing b t n hs) text rest d c (inr g) (inr f) = header_good 7 7 7 g.1 (omega arith) (omega arith) (omega arith) f.1
good_no_fault (loading b t hs ps) text rest d c g f = load_good ps g.0 g.2 g.3 g.4 f.1

-- a faulty line has one fault
pub fault_once : (b : Beginning) (text : List ℕ) (c d : Cause) → LineFault b text c → LineFault b text d → c ≡ d
fault_once nothing text c d f g = header_fault (codes "bar") 1 1 f g
fault_once bar_named text c d f g = bar_fault f g
fault_once (barred b) text c d f g = header_fault (codes "bolt") 1 1 f g
fault_once (bolt_named b) text c d f g = bolt_fault f g
fault_once (bolted b t) text c d f g = header_fault (codes "holes") 0 32 f g
fault_once (holing b t n hs) text c d (inl f) (inl g) = hole_fault (account_of (holing b t n hs)) f.1 g.1
fault_once (holing b t n hs) text c d (inl f) (inr g) = absurd (omega arith)
fault_once (holing b t n hs) text c d (inr f) (inl g) = absurd (omega arith)
fault_once (holing b t n hs) text c d (inr f) (inr g) = header_fault (codes "loads") 7 7 f.1 g.1
fault_once (loading b t hs ps) text c d f g = load_fault ps f.1 g.1

-- ---- paths

-- good lines lead from one beginning, with what follows it, to another
pub data Path : Beginning → List ℕ → Beginning → List ℕ → Type 0 where
  here : {b : Beginning} {p : List ℕ} → Path b p b p
  on : {b d e : Beginning} {p q r : List ℕ} → Good b p q d → Path d q e r → Path b p e r

further : {b d e : Beginning} {p q r : List ℕ} → Path b p d q → Good d q r e → Path b p e r
further here g = on g here
further (on f x) g = on f (further x g)

from_same : {b d e : Beginning} {p q r : List ℕ} → b ≡ d → p ≡ q → Path b p e r → Path d q e r
from_same {b} {d} {e} {p} {q} {r} s t x = subst (λ (c : Beginning). Path c q e r) s (subst (λ (u : List ℕ). Path b u e r) t x)

-- of two paths from one place one goes on where the other ends
forked : {b d e : Beginning} {p q r : List ℕ} → Path b p d q → Path b p e r → Path d q e r ⊎ Path e r d q
forked here y = inl y
forked (on g x) here = inr (on g x)
forked {b} {d} {e} {p} {q} {r} (on g x) (on h y) =
    let o = good_once b p _ _ _ _ h g in
    forked x (from_same o.0 o.1 y)

-- no good line follows
abbrev pub Ended : Beginning → List ℕ → Type 0
Ended b p = (d : Beginning) (q : List ℕ) → Good b p q d → ⊥

stays : {b d : Beginning} {p q : List ℕ} → Path b p d q → Ended b p → (b ≡ d) × (p ≡ q)
stays here n = (refl, refl)
stays (on g x) n = absurd (n _ _ g)

pub one_end : {b d e : Beginning} {p q r : List ℕ} → Path b p d q → Path b p e r → Ended d q → Ended e r → (d ≡ e) × (q ≡ r)
one_end x y m n = ⊎_elim (λ z. stays z m) (λ z. let s = stays z n in (sym s.0, sym s.1)) (forked x y)

-- ---- the path to a beginning whose lines are all good

clean_header : (n : ℕ) (name : List ℕ) → n ≤ 32 → Clean name → Cleans (header_words n name)
clean_header n name h c = (clean_decimal n (omega arith), (c, tt))

clean_bar : (b : Bar) → bar_ranges b ≡ true → Cleans (bar_words b)
clean_bar b r =
    let s = short_bar b r in
    (clean_decimal b.width s.0, (clean_decimal b.thickness s.1, (clean_steel b.steel, (clean_decimal b.edge s.2, tt))))

clean_bolt : (t : Bolt) → bolt_ranges t ≡ true → Cleans (bolt_words t)
clean_bolt t r =
    let s = short_bolt t r in
    (clean_size t.size, (clean_decimal t.stress.0 s.0, (clean_decimal t.planes s.1, tt)))

clean_hole : (h : Hole) → ShortHole h → Cleans (hole_words h)
clean_hole h s = (clean_decimal h.x s.0, (clean_decimal h.y s.1, (clean_decimal h.diameter s.2, tt)))

clean_load : (p : Load) → bearable p.1 ≡ true → Cleans (load_words p)
clean_load p r = (clean_letter p.0, (clean_signed p.1 (nine_load p.1 r), tt))

begun : (ws : List (List ℕ)) (rest : List ℕ) → Cleans ws → Begins (line ws ++ rest) ws rest
begun ws rest c = written_line (line ws ++ rest) ws rest c refl

module _ (text : List ℕ) where
  abbrev Reached : Beginning → Type 0
  Reached b = (rest : List ℕ) → text ≡ written b ++ rest → Path nothing text b rest

  -- by one line more
  more : (b d : Beginning) (ws : List (List ℕ)) → Reached b → lines d ≡ ws ∷ lines b → ((rest : List ℕ) → Good b (line ws ++ rest) rest d) → Reached d
  more b d ws x e g rest is = further (x (line ws ++ rest) (is ∙ ap (λ ls. flat_map line (reverse ls) ++ rest) e ∙ one_more (lines b) ws rest)) (g rest)

  to_nothing : Reached nothing
  to_nothing rest is = subst (λ (t : List ℕ). Path nothing text nothing t) is here

  to_bar_named : Reached bar_named
  to_bar_named = more nothing bar_named _ to_nothing refl (λ rest. (begun _ rest (clean_header 1 (codes "bar") (omega arith) (clean_by _ (omega arith) refl refl)), refl))

  module _ (b : Bar) (in-range : bar_ranges b ≡ true) where
    to_barred : Reached (barred b)
    to_barred = more bar_named (barred b) _ to_bar_named refl (λ rest. (b, in-range, begun _ rest (clean_bar b in-range), refl))

    to_bolt_named : Reached (bolt_named b)
    to_bolt_named = more (barred b) (bolt_named b) _ to_barred refl (λ rest. (begun _ rest (clean_header 1 (codes "bolt") (omega arith) (clean_by _ (omega arith) refl refl)), refl))

    module _ (t : Bolt) (bolt-in-range : bolt_ranges t ≡ true) where
      to_bolted : Reached (bolted b t)
      to_bolted = more (bolt_named b) (bolted b t) _ to_bolt_named refl (λ rest. (t, bolt-in-range, begun _ rest (clean_bolt t bolt-in-range), refl))

      to_holing : (n : ℕ) (hs : List Hole) → n ≤ 32 → HolesGood b t n hs → Reached (holing b t n hs)
      to_holing n [] few good = more (bolted b t) (holing b t n []) _ to_bolted refl (λ rest. (n, few, begun _ rest (clean_header n (codes "holes") few (clean_by _ (omega arith) refl refl)), refl))
      to_holing n (h ∷ hs) few good =
          let s = short_hole b t _ h in-range good.2 in
          more (holing b t n hs) (holing b t n (h ∷ hs)) _ (to_holing n hs few good.0) refl (λ rest. inl (h, good.1, good.2, s, begun _ rest (clean_hole h s), refl))

      to_loading : (hs : List Hole) (ps : List Load) → length hs ≤ 32 → HolesGood b t (length hs) hs → LoadsGood ps → Reached (loading b t hs ps)
      to_loading hs [] few good loads =
          more (holing b t (length hs) hs) (loading b t hs []) _ (to_holing (length hs) hs few good) refl
          (λ rest. inr (refl, begun _ rest (clean_header 7 (codes "loads") (omega arith) (clean_by _ (omega arith) refl refl)), refl))
      to_loading hs (p ∷ ps) few good loads =
          more (loading b t hs ps) (loading b t hs (p ∷ ps)) _ (to_loading hs ps few good loads.0) refl
          (λ rest. (p, loads.1, loads.2, loads.3, begun _ rest (clean_load p loads.3), refl))

  pub reached : (b : Beginning) → Lawful b → Reached b
  reached nothing l = to_nothing
  reached bar_named l = to_bar_named
  reached (barred b) l = to_barred b l
  reached (bolt_named b) l = to_bolt_named b l
  reached (bolted b t) l = to_bolted b l.0 t l.1
  reached (holing b t n hs) l = to_holing b l.0 t l.1 n hs l.2 l.3
  reached (loading b t hs ps) l = to_loading b l.0 t l.1 hs ps l.2 l.3 l.4
