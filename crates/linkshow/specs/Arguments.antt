-- What an argument asks for.
use Rattle.std.specs.Prelude.{ℕ, ◌==◌, ◌||◌, if◌then◌else◌, List, codes}
use lib.Pointwise.{pointwise}
use Rattle.linkshow.specs.declared.arguments.Request.{Request}
use Rattle.linkshow.specs.declared.arguments.Request.TheVariants.{Help, Version, Kernel, Lenient, Unknown}

abbrev pub request_of : List ℕ → Request
request_of word =
    if pointwise ◌==◌ word (codes "--help") || pointwise ◌==◌ word (codes "-h") then Help
    else if pointwise ◌==◌ word (codes "--version") then Version
    else if pointwise ◌==◌ word (codes "--kernel") then Kernel
    else if pointwise ◌==◌ word (codes "--lenient") then Lenient
    else Unknown
