-- The entries of a table, as the code goes over them.
use Rattle.std.proofs.Common.{◌≡◌, ℕ, ◌+◌, ◌<◌, ◌≤◌, List, [], ◌∷◌, ◌++◌, length, get_or, drop, map, Ok, String, Global, Bor, BTreeMap, refl, sym, ◌∙◌}
use Rattle.toml.specs.declared.value.Value.{Value}
use Rattle.toml.specs.View.{table_view}
use Rattle.toml.specs.Data.{Members}
use Rattle.std.proofs.lemmas.List.{drop_more, drop_all, length-map}
use Rattle.std.proofs.lemmas.Bool.{le-ltb}
use Rattle.ring_config.specs.declared.error.ConfigError.{ConfigError}
use Rattle.ring_config.specs.declared.error.ConfigError.TheVariants.{NotToml, Missing, BadValue, Unknown, Repeated, TooMany, Memory}
use Rattle.ring_config.specs.Reading.{Read, Fails}
use Rattle.ring_config.specs.Walk.{Rules, entry_at, read_entry, entries_from, entries_of}

abbrev pub Table : Type 0
Table = BTreeMap (String Global) Value

abbrev pub seen_tables : List (Bor Table) → List Members
seen_tables ts = map (λ t. table_view t.now) ts

module _ {X : Type 0} (rules : Rules X) where
  pub next_entry : (n i : ℕ) (earlier : List X) (ts : List (Bor Table)) (t : Bor Table) (x : X) → i < length ts → t ≡ get_or ts i t → read_entry rules earlier (entry_at rules n (table_view t.now)) ≡ Ok x
      → entries_from rules n earlier (seen_tables (drop i ts)) ≡ entries_from rules (n + 1) (earlier ++ x ∷ []) (seen_tables (drop (i + 1) ts))
  unfolding entries_from
  next_entry n i earlier ts t x lt here e = rw (drop_more ts i t lt, ← here, e) refl

  pub entry_refused : (n i : ℕ) (earlier : List X) (ts : List (Bor Table)) (t : Bor Table) (e : ConfigError) (whole : Read (List X)) → i < length ts → t ≡ get_or ts i t → Fails e (read_entry rules earlier (entry_at rules n (table_view t.now)))
      → entries_from rules n earlier (seen_tables (drop i ts)) ≡ whole → Fails e whole
  unfolding entries_from
  entry_refused n i earlier ts t Memory whole lt here f so_far = tt
  entry_refused n i earlier ts t NotToml whole lt here f so_far = sym so_far ∙ rw (drop_more ts i t lt, ← here, f) refl
  entry_refused n i earlier ts t (Missing p) whole lt here f so_far = sym so_far ∙ rw (drop_more ts i t lt, ← here, f) refl
  entry_refused n i earlier ts t (BadValue p) whole lt here f so_far = sym so_far ∙ rw (drop_more ts i t lt, ← here, f) refl
  entry_refused n i earlier ts t (Unknown p) whole lt here f so_far = sym so_far ∙ rw (drop_more ts i t lt, ← here, f) refl
  entry_refused n i earlier ts t (Repeated p) whole lt here f so_far = sym so_far ∙ rw (drop_more ts i t lt, ← here, f) refl
  entry_refused n i earlier ts t (TooMany p) whole lt here f so_far = sym so_far ∙ rw (drop_more ts i t lt, ← here, f) refl

  pub entries_over : (n i : ℕ) (earlier : List X) (ts : List (Bor Table)) → length ts ≤ i → entries_from rules n earlier (seen_tables (drop i ts)) ≡ Ok earlier
  unfolding entries_from
  entries_over n i earlier ts le = rw (drop_all i ts le) refl

  -- at most so many entries are those from number 0 on
  pub few_entries : (ts : List (Bor Table)) → length ts ≤ rules.limit → entries_of rules (seen_tables ts) ≡ entries_from rules 0 [] (seen_tables ts)
  unfolding entries_of
  few_entries ts le = rw (length-map, le-ltb rules.limit (length ts) le) refl
