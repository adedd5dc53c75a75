use Rattle.std.proofs.Common.{◌≡◌, ◌++◌, ◌<◌, ℕ, [], ◌∷◌, List, sym, ap, ◌∙◌, arith}
use Rattle.std.proofs.lemmas.Str.Pattern.{NoCharPasses-char}
use Rattle.std.specs.String.{string_bytes}
use Rattle.vl_load.specs.Names.{folder_of}
use Rattle.vl_load.proofs.Folders.{folder_at, without_folder}
use Rattle.vl_load.proofs.names.folder_of.Goals as goal

pub returns-in_default : goal.returns-in_default
returns-in_default c =
    let name = c.args.name.now in
    let none : folder_of name ≡ [] = without_folder name (λ k lt. NoCharPasses-char 47 name k c.in_default.ensures.cases (omega arith) lt) in
    c.new.ensures.bytes ∙ sym none

pub returns : goal.returns
returns c =
    let name = c.args.name.now in
    let cut = c.in-Some.ensures.cases in
    let slash = c.in_ok-push.ensures.ascii (omega arith) in
    c.in_ok-push.ensures.bytes
    ∙ (ap (λ (last : List ℕ). string_bytes c.in_ok-folder.folder ++ last) slash
    ∙ (ap (λ (front : List ℕ). front ++ (47 ∷ [])) (c.in_ok-folder.ensures.ok ∙ cut.3)
    ∙ sym (folder_at name cut.0 cut.1 cut.2)))
