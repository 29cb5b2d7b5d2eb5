-- The nineteen load combinations of Section 1.4.1 of the norm E.090, in tenths of a newton.
use Rattle.std.specs.Prelude.{ℕ, List, [], ◌∷◌, map, ℤ, pos, ◌+ℤ◌, ◌-ℤ◌, ◌*ℤ◌, slice_index_or}
use Rattle.parts.specs.declared.quantity.Decinewtons.{Decinewtons}

-- dead, live, roof live, snow, rain, wind and earthquake, in newtons
module _ (d l a s r w e : ℤ) where
  -- 1.2 D + 1.6 L + 0.5 (A or S or R)
  abbrev live_leads : ℤ → ℤ
  live_leads x = (pos 12 *ℤ d +ℤ pos 16 *ℤ l) +ℤ pos 5 *ℤ x

  -- 1.2 D + 1.6 (A or S or R) + (0.5 L or 0.8 W)
  abbrev roof_leads_with_live : ℤ → ℤ
  roof_leads_with_live x = (pos 12 *ℤ d +ℤ pos 16 *ℤ x) +ℤ pos 5 *ℤ l

  abbrev roof_leads_with_wind : ℤ → ℤ
  roof_leads_with_wind x = (pos 12 *ℤ d +ℤ pos 16 *ℤ x) +ℤ pos 8 *ℤ w

  -- 1.2 D + 1.3 W + 0.5 L + 0.5 (A or S or R)
  abbrev wind_leads : ℤ → ℤ
  wind_leads x = ((pos 12 *ℤ d +ℤ pos 13 *ℤ w) +ℤ pos 5 *ℤ l) +ℤ pos 5 *ℤ x

  -- 1.2 D + 0.5 L + 0.2 S, to which 1.0 E comes with either sign
  abbrev beside_earthquake : ℤ
  beside_earthquake = (pos 12 *ℤ d +ℤ pos 5 *ℤ l) +ℤ pos 2 *ℤ s

  -- 0.9 D, to which 1.3 W or 1.0 E comes with either sign
  abbrev least_dead : ℤ
  least_dead = pos 9 *ℤ d

  abbrev pub combinations : List ℤ
  combinations =
      (pos 14 *ℤ d)
      ∷ live_leads a ∷ live_leads s ∷ live_leads r
      ∷ roof_leads_with_live a ∷ roof_leads_with_wind a
      ∷ roof_leads_with_live s ∷ roof_leads_with_wind s
      ∷ roof_leads_with_live r ∷ roof_leads_with_wind r
      ∷ wind_leads a ∷ wind_leads s ∷ wind_leads r
      ∷ (beside_earthquake +ℤ pos 10 *ℤ e) ∷ (beside_earthquake -ℤ pos 10 *ℤ e)
      ∷ (least_dead +ℤ pos 13 *ℤ w) ∷ (least_dead -ℤ pos 13 *ℤ w)
      ∷ (least_dead +ℤ pos 10 *ℤ e) ∷ (least_dead -ℤ pos 10 *ℤ e)
      ∷ []

abbrev load : List ℤ → ℕ → ℤ
load xs k = slice_index_or xs k (pos 0)

-- of loads by their numbers
abbrev pub combined : List ℤ → List ℤ
combined xs = combinations (load xs 0) (load xs 1) (load xs 2) (load xs 3) (load xs 4) (load xs 5) (load xs 6)

abbrev pub decinewtons : ℤ → Decinewtons
decinewtons z = record { 0 = z }

-- the rows of seven loads: shut, so that goals stay short
unfoldable pub rows_of : List ℤ → List Decinewtons
rows_of xs = map decinewtons (combined xs)

-- the row at a place
abbrev pub row_at : List Decinewtons → ℕ → Decinewtons
row_at rows k = slice_index_or rows k (decinewtons (pos 0))

-- the row of a number, in tenths of a newton
abbrev pub row : List Decinewtons → ℕ → ℤ
row rows n = (row_at (decinewtons (pos 0) ∷ rows) n).0
