mod Differences
mod FewTell
mod JoinedPairs
mod Marked
mod SameParts
mod WithOne
