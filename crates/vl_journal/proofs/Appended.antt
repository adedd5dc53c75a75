-- A file with one record more.
use Rattle.std.proofs.Common.{◌≡◌, ◌<◌, ◌+◌, ◌++◌, [], ◌∷◌, ℕ, List, length, refl, sym, ◌∙◌, ap, subst, inl, inr, arith, append_assoc, length-append}
use Rattle.std.specs.List.{flat_map}
use Rattle.std.proofs.lemmas.Grind.{flat_map-append}
use Rattle.std.proofs.lemmas.List.{append-nil}
use Rattle.vl_disk.specs.DiskView.{DiskView}
use Rattle.vl_catalog.specs.declared.catalog.Catalog.{Catalog}
use Rattle.vl_catalog.specs.declared.part.Part.{Part}
use Rattle.vl_record.specs.Spelling.{header_bytes, open_gate, record_bytes, records_bytes}
use Rattle.vl_record.specs.Grammar.{AreRecords, Content, EndsAt, IsContent, IsRecord, content_bytes}
use Rattle.vl_record.specs.Stored.{Stores, with_record}
use Rattle.vl_journal.specs.Gate.{EndsWithOrWithout, framed, unlocked}
use Rattle.vl_journal.specs.Journals.{IsUp, StoresWithOrWithout}

pub grown : (shard : ℕ) (content : Content) (parts : List Part)
    → content_bytes shard content ++ unlocked (record_bytes parts) ≡ content_bytes shard (with_record parts content)
grown shard content parts =
    let one : List Part → List ℕ = λ parts. open_gate ∷ record_bytes parts in
    let head = open_gate ∷ header_bytes shard content.epoch content.last_tx content.rows in
    let more : records_bytes (content.records ++ parts ∷ []) ≡ records_bytes content.records ++ one parts
    = flat_map-append one content.records (parts ∷ []) ∙ ap (λ (t : List ℕ). records_bytes content.records ++ t) (append-nil (one parts)) in
    append_assoc head (records_bytes content.records) (one parts) ∙ ap (λ (t : List ℕ). head ++ t) (sym more)

are_more : (catalog : Catalog) (shard : ℕ) (records : List (List Part)) (parts : List Part) → AreRecords catalog shard records → IsRecord catalog shard parts
    → AreRecords catalog shard (records ++ parts ∷ [])
are_more catalog shard [] parts are is = (is, tt)
are_more catalog shard (first ∷ records) parts are is = (are.0, are_more catalog shard records parts are.1 is)

pub stores_more : (catalog : Catalog) (shard : ℕ) (content : Content) (parts : List Part) (file : List ℕ) → IsContent catalog shard content → IsRecord catalog shard parts
    → EndsAt (content_bytes shard content ++ unlocked (record_bytes parts)) file → Stores catalog shard (with_record parts content) file
stores_more catalog shard content parts file allowed is ends = record {
  is = record { shard_fits = allowed.shard_fits; epoch = allowed.epoch; last_tx = allowed.last_tx; few = allowed.few; rows = allowed.rows; records = are_more catalog shard content.records parts allowed.records is };
  ends = subst (λ (front : List ℕ). EndsAt front file) (grown shard content parts) ends;
}

pub stores_or : (catalog : Catalog) (shard : ℕ) (content : Content) (parts : List Part) (file : List ℕ) → IsContent catalog shard content → IsRecord catalog shard parts
    → EndsWithOrWithout (content_bytes shard content) (record_bytes parts) file → StoresWithOrWithout catalog shard content parts file
stores_or catalog shard content parts file allowed is (inl without) = inl (record { is = allowed; ends = without })
stores_or catalog shard content parts file allowed is (inr with_it) = inr (stores_more catalog shard content parts file allowed is with_it)

end_more : (shard : ℕ) (content : Content) (parts : List Part) (end : ℕ) (text : List ℕ) → end ≡ length (content_bytes shard content) → text ≡ framed (record_bytes parts)
    → end + length text ≡ length (content_bytes shard (with_record parts content))
end_more shard content parts end text at is =
    let size = ap length is in
    let whole = ap length (grown shard content parts) in
    omega (arith, at, size, whole, length-append (content_bytes shard content) (unlocked (record_bytes parts)), length-append (record_bytes parts) (0 ∷ []))

pub up_more : (catalog : Catalog) (shard : ℕ) (content : Content) (parts : List Part) (v w : DiskView) (end : ℕ) (text : List ℕ)
    → IsUp catalog shard content v end → IsRecord catalog shard parts → text ≡ framed (record_bytes parts)
    → EndsAt (content_bytes shard content ++ unlocked (record_bytes parts)) w.now.seen → IsUp catalog shard (with_record parts content) w (end + length text)
up_more catalog shard content parts v w end text up is framed_text ends = record {
  stores = stores_more catalog shard content parts w.now.seen up.stores.is is ends;
  ends = end_more shard content parts end text up.ends framed_text;
}
