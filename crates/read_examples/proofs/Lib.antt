mod ReadRows
